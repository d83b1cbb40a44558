-- What becomes of a write of MANAGEMENT_AGENT that the target took as new, moment by moment.
use Rattle.sbp_world.proofs.Words.Std.{arith, zero, ◌≡◌, ◌∙◌, refl, sym, ap, subst, ℕ, suc, ◌<◌, nat_eq, Bool, true, false, cond, List, [], ◌∷◌, Option, Some, None, nat_tests, same_Some}
use Rattle.sbp_world.proofs.Words.Wire.{Moment, Sending, SerialsCount, Terms, Transaction, asked, begun_in, said, terms, times_out}
use Rattle.sbp_world.proofs.Words.Target.{Disk, Operation}
use Rattle.sbp_world.proofs.Words.Initiator.{offset_at}
use Rattle.sbp_world.proofs.Words.Laws.{Target, access_in, answer_in, answered_at, id_for, packet_at, packet_in, target_at}
use Rattle.sbp_world.proofs.Words.World.{Office, at_rest, managed_for, office_of, started, started_by}
use Rattle.sbp_world.specs.Lists.ManagedFor.{is_its_packet, operation_if}
use Rattle.mgmt_agent.specs.Machine as manager
use Rattle.mgmt_agent.specs.declared.operation.Phase.{Phase}
use Rattle.mgmt_agent.specs.declared.operation.Phase.TheVariants as phases
use Rattle.sbp_journal.specs.declared.note.Note.TheVariants as notes
use Rattle.sbp_world.specs.Completing.EndsTaken.{Became, IsFirstAt, IsAnsweredWell, IsForPlace, IsHandled, IsSmooth, IsTakenWell, TakenWriteLaw, WasDone, busy, dropped, handled, told}
use Rattle.sbp_world.specs.Completing.OperationsReplies.{IsWhole, TakesOn, goes_on, is_over}
use Rattle.sbp_world.proofs.Common.{none_is}
use Rattle.sbp_world.proofs.Completing.EndsOffices.{Holds, answers, moment_holds, starts_office, stays}
use Rattle.sbp_world.proofs.Completing.EndsRefused.{moment_news}
use Rattle.sbp_world.proofs.Completing.OperationsReplies.{whole_replies_law}
use Rattle.sbp_world.proofs.Hosts.Remaining.{serials_behind}
use Rattle.sbp_world.proofs.Lists.ContentManages.{Bound, Moves, bound, drops, keeps, moment_moves, puts}
use Rattle.sbp_world.proofs.Lists.ManageSends.{opened_terms, sent_other, sent_terms}
use Rattle.sbp_world.proofs.Lists.ManageStays.{zero_or}
use Rattle.sbp_world.proofs.Lists.ManageTerms.{got_rests, ignored_rests}

-- ---- what a moment leaves of the write
module _ (start : List Disk) (i write place : ℕ) (q : Sending) where
  abbrev G : ℕ
  G = q.generation

  abbrev B : List Moment → Type 0
  B past = Became start past i write place G

  sent_same : (m : Moment) (past : List Moment) → IsSmooth start i write G m past → (terms (m ∷ past)).sent write ≡ (terms past).sent write
  sent_same (asked line event) past s = ap (λ (f : ℕ → Option Sending). f write) (opened_terms event (terms past)).sent
  sent_same (said (notes.Sent serial g from to bytes)) past s =
      let one : Sending = record { generation = g; from = from; to = to; bytes = bytes; injected = (terms past).injected serial } in
      let before = s.0 in
      let apart : nat_eq write serial ≡ false = grind (arith, nat_tests) in
      ap (λ (f : ℕ → Option Sending). f write) (sent_terms serial one (terms past)).sent ∙ sent_other serial write one (terms past).sent apart
  sent_same (said (notes.Got serial)) past s = ap (λ (f : ℕ → Option Sending). f write) (got_rests serial past).sent
  sent_same (said (notes.Ignored serial cause)) past s = ap (λ (f : ℕ → Option Sending). f write) (ignored_rests serial cause past).sent
  sent_same (said (notes.TimedOut serial)) past s = absurd s
  sent_same (said note) past s = refl

  ids_same : (m : Moment) (past : List Moment) → IsSmooth start i write G m past → (terms (m ∷ past)).ids G (suc i) ≡ (terms past).ids G (suc i)
  ids_same (asked line event) past s = s
  ids_same (said (notes.Sent serial g from to bytes)) past s = ap (λ (f : ℕ → ℕ → ℕ). f G (suc i)) (sent_terms serial (record { generation = g; from = from; to = to; bytes = bytes; injected = (terms past).injected serial }) (terms past)).ids
  ids_same (said (notes.Got serial)) past s = ap (λ (f : ℕ → ℕ → ℕ). f G (suc i)) (got_rests serial past).ids
  ids_same (said (notes.Ignored serial cause)) past s = ap (λ (f : ℕ → ℕ → ℕ). f G (suc i)) (ignored_rests serial cause past).ids
  ids_same (said (notes.TimedOut serial)) past s = absurd s
  ids_same (said note) past s = refl

  -- a packet that was taken stands for the same operation
  for_same : (m : Moment) (past : List Moment) → IsSmooth start i write G m past → (r : ℕ) → 0 < (terms past).news r → managed_for start (m ∷ past) r ≡ managed_for start past r
  for_same (said (notes.Sent serial g zero to bytes)) past s r taken =
      ap (λ b. cond b (operation_if (is_its_packet (target_at start past) (target_at start (said (notes.Sent serial g zero to bytes) ∷ past)) serial) (target_at start past).manager.operation) (managed_for start past r)) (apart (nat_eq r serial) refl)
    where
      apart : (b : Bool) → nat_eq r serial ≡ b → nat_eq r serial ≡ false
      apart true e =
          let same : r ≡ serial = grind (arith, nat_tests) in
          let x = ap (terms past).news same in
          let none = s.1 in
          absurd (omega (arith, x, none, taken))
      apart false e = e
  for_same m past s r taken = refl

  -- ---- it is handled still
  module _ (m : Moment) (past : List Moment) (counts : SerialsCount (m ∷ past)) (smooth : IsSmooth start i write G m past) (new : 0 < (terms past).news write) where
    abbrev now : List Moment
    now = m ∷ past

    abbrev T : Target
    T = target_at start past

    before : SerialsCount past
    before = serials_behind m past counts

    known : Bound start past
    known = bound start past before

    module _ (h : IsHandled start past i write place G) where
      behind_by : Moves (office_of T) (office_of (target_at start now)) m → (r : ℕ) → (target_at start now).manages ≡ Some r → write < r
      behind_by (keeps manager decided manages) r e = h.behind r (sym manages ∙ e)
      behind_by (drops none) r e = none_is r (sym none ∙ e)
      behind_by (puts serial g to bytes at manager decided manages asks some) r e =
          let same : serial ≡ r = same_Some serial r (sym manages ∙ e) in
          let l : write < serial = (subst (λ x. IsSmooth start i write G x past) at smooth).0 in
          omega (arith, same, l)

      behind_now : (r : ℕ) → (target_at start now).manages ≡ Some r → write < r
      behind_now = behind_by (moment_moves start m past known.bare)

      handles : (op : Operation) → (target_at start now).manager.operation ≡ Some op → op.source ≡ h.op.source → op.orb ≡ h.op.orb → B now
      handles op e source orb = handled (record { op = op; is = e; source = source ∙ (h.source ∙ sym (ids_same m past smooth)); orb = orb ∙ h.orb; behind = behind_now })

      takes : (left : Option Operation) → (target_at start now).manager.operation ≡ left → (serial own : ℕ) → m ≡ said (notes.Got serial) → answered_at (terms past) serial ≡ Some own → T.manages ≡ Some own → IsAnsweredWell start past serial own h.op → TakesOn h.op left → B now
      takes left e serial own at answered manages w (goes_on op is source orb) = handles op (e ∙ is) source orb
      takes left e serial own at answered manages w (is_over phase none) =
          let l = w.taken phase in
          let grow = moment_news m past own in
          told (record {
            serial = own;
            op = h.op;
            is_for = for_same m past smooth own l ∙ ((known.own own manages).0 ∙ h.is);
            status = phase;
            source = h.source ∙ sym (ids_same m past smooth);
            orb = h.orb;
            behind = h.behind own manages;
            judged = omega (arith, l, grow);
            done = record {
              later = [];
              before = past;
              got = serial;
              is = ap (λ (x : Moment). x ∷ past) (sym at);
              closes = answered;
              done = subst (λ (x : Phase). IsWhole x (answer_in (packet_at (terms past) serial))) phase w.whole;
              manages = manages;
              op = h.op;
              operation = h.is;
              source = h.source;
              taken = new;
            };
          })

      handled_on : Holds start past m → B now
      handled_on (stays e) = handles h.op (ap (λ (x : manager.Machine). x.operation) e ∙ h.is) refl refl
      handled_on (answers serial own at answered manages e) =
          let w : IsAnsweredWell start past serial own h.op = (subst (λ x. IsSmooth start i write G x past) at smooth) own answered manages h.op h.is in
          let t = whole_replies_law T.manager T.table T.keys h.op (answer_in (packet_at (terms past) serial)) h.is w.whole in
          takes _ (ap (λ (x : manager.Machine). x.operation) e) serial own at answered manages w t.operation

    -- so is each
    goes : B past → B now
    goes (handled h) = handled_on h (moment_holds start past h.op h.is m i write G smooth)
    goes (busy b) = busy (record { later = m ∷ b.later; before = b.before; is = ap (λ (xs : List Moment). m ∷ xs) b.is; new = b.new; op = b.op; busy = b.busy })
    goes (dropped d) = dropped (record { later = m ∷ d.later; before = d.before; cause = d.cause; is = ap (λ (xs : List Moment). m ∷ xs) d.is; new = d.new; taken = d.taken })
    goes (told x) =
        let l = x.judged in
        let grow = moment_news m past x.serial in
        told (record {
          serial = x.serial;
          op = x.op;
          is_for = for_same m past smooth x.serial l ∙ x.is_for;
          status = x.status;
          source = x.source ∙ sym (ids_same m past smooth);
          orb = x.orb;
          behind = x.behind;
          judged = omega (arith, l, grow);
          done = done_on x.done;
        })
      where
        done_on : (d : WasDone start past i write x.serial G) → WasDone start now i write x.serial G
        done_on d = record { later = m ∷ d.later; before = d.before; got = d.got; is = ap (λ (xs : List Moment). m ∷ xs) d.is; closes = d.closes; done = d.done; manages = d.manages; op = d.op; operation = d.operation; source = d.source; taken = d.taken }

  -- ---- it is taken
  begins_by : (operation : Option Operation) (id orb : ℕ) (o : Office) → operation ≡ None → ((started_by (manager.start_with operation o.manager id orb) o).manager.operation ≡ Some (record { source = id; orb = orb; phase = phases.Orb })) × ((started_by (manager.start_with operation o.manager id orb) o).manages ≡ o.manages)
  begins_by None id orb o e = (refl, refl)
  begins_by (Some op) id orb o e = none_is op (sym e)

  begins : (id orb : ℕ) (o : Office) → o.manager.operation ≡ None → ((started id orb o).manager.operation ≡ Some (record { source = id; orb = orb; phase = phases.Orb })) × ((started id orb o).manages ≡ o.manages)
  unfolding manager.start_step
  begins id orb o e = begins_by o.manager.operation id orb o e

  module _ (past : List Moment) (for_place : IsForPlace i place q) (counts : SerialsCount past) (sent : (terms past).sent write ≡ Some q) (new : (terms past).news write ≡ 0) (well : IsTakenWell past write q) where
    abbrev t : Terms
    t = terms past

    abbrev O : Office
    O = office_of (target_at start past)

    starts_by : (operation : Option Operation) → (target_at start past).manager.operation ≡ operation → B (said (notes.Got write) ∷ past)
    starts_by (Some op) e = busy (record { later = []; before = past; is = refl; new = new; op = op; busy = e })
    starts_by None e =
        let f = for_place in
        let office = starts_office start past write q sent f.to_is f.access well.request (ap (λ (found : Option Sending). access_in (packet_in found)) sent ∙ f.spelled) f.at f.serves in
        let b = begins (id_for t 0 q.from) (offset_at f.access.payload 0) (at_rest O) e in
        handled (record {
          op = record { source = id_for t 0 q.from; orb = offset_at f.access.payload 0; phase = phases.Orb };
          is = ap (λ (o : Office). o.manager.operation) office ∙ b.0;
          source = ap (λ g. t.ids g q.from) well.current ∙ (ap (λ n. t.ids G n) f.from_is ∙ sym (ap (λ (x : ℕ → ℕ → ℕ). x G (suc i)) (got_rests write past).ids));
          orb = f.names;
          behind = λ r k. none_is r (sym ((bound start past counts).bare e) ∙ (sym b.1 ∙ (sym (ap (λ (o : Office). o.manages) office) ∙ k)));
        })

    starts : B (said (notes.Got write) ∷ past)
    starts = starts_by (target_at start past).manager.operation refl

  late_news : (u : Option Transaction) (t : Terms) → (times_out u t).news ≡ t.news
  late_news None t = refl
  late_news (Some u) t = refl

  module _ (for_place : IsForPlace i place q) where
    first : (m : Moment) (past : List Moment) → SerialsCount past → (terms (m ∷ past)).sent write ≡ Some q → (terms past).news write ≡ 0 → 0 < (terms (m ∷ past)).news write → IsFirstAt write q m past → B (m ∷ past)
    first (asked line event) past counts sent new taken f = let same = ap (λ (x : ℕ → ℕ). x write) (opened_terms event (terms past)).news in absurd (omega (arith, same, new, taken))
    first (said (notes.Sent serial g from to bytes)) past counts sent new taken f =
        let same = ap (λ (x : ℕ → ℕ). x write) (sent_terms serial (record { generation = g; from = from; to = to; bytes = bytes; injected = (terms past).injected serial }) (terms past)).news in
        absurd (omega (arith, same, new, taken))
    first (said (notes.Got serial)) past counts sent new taken f = by (nat_eq write serial) refl
      where
        by : (b : Bool) → nat_eq write serial ≡ b → B (said (notes.Got serial) ∷ past)
        by true e =
            let same : write ≡ serial = grind (arith, nat_tests) in
            subst (λ s. B (said (notes.Got s) ∷ past)) same (starts past for_place counts (sym (ap (λ (x : ℕ → Option Sending). x write) (got_rests serial past).sent) ∙ sent) new (f (sym same)))
        by false e = let other = (got_rests serial past).others write e in absurd (omega (arith, other, new, taken))
    first (said (notes.Ignored serial cause)) past counts sent new taken f = by (nat_eq write serial) refl
      where
        by : (b : Bool) → nat_eq write serial ≡ b → B (said (notes.Ignored serial cause) ∷ past)
        by true e =
            let same : write ≡ serial = grind (arith, nat_tests) in
            let seen : 0 < (terms (said (notes.Ignored write cause) ∷ past)).news write = subst (λ s. 0 < (terms (said (notes.Ignored s cause) ∷ past)).news write) (sym same) taken in
            subst (λ s. B (said (notes.Ignored s cause) ∷ past)) same (dropped (record { later = []; before = past; cause = cause; is = refl; new = new; taken = seen }))
        by false e = let other = (ignored_rests serial cause past).others write e in absurd (omega (arith, other, new, taken))
    first (said (notes.TimedOut serial)) past counts sent new taken f = let same = ap (λ (x : ℕ → ℕ). x write) (late_news (begun_in ((terms past).sent serial)) (terms past)) in absurd (omega (arith, same, new, taken))
    first (said note) past counts sent new taken f = absurd (omega (arith, new, taken))

-- ---- each history
pub taken_write_law : TakenWriteLaw
taken_write_law start [] counts i write place q for_place well sent taken = absurd (omega (arith, taken))
taken_write_law start (m ∷ past) counts i write place q for_place well sent taken =
    let back = serials_behind m past counts in
    zero_or ((terms past).news write)
    (λ new. first start i write place q for_place m past back sent new taken (well.0.first new))
    (λ l.
    let smooth = well.0.behind l in
    goes start i write place q m past counts smooth l (taken_write_law start past back i write place q for_place well.1 (sym (sent_same start i write place q m past smooth) ∙ sent) l))
