-- The reads of a ROM that an initiator has under way, behind a time-out, a sight and an action.
use Rattle.std.proofs.Common.{arith, ◌≡◌, ◌∙◌, inl, inr, ◌⊎◌, refl, sym, ap, subst, ℕ, suc, ◌^◌, ◌<◌, ◌==◌, nat_lt, not, Bool, true, false, cond, List, [], ◌∷◌, Option, Some, None, Result, Ok, Err}
use Rattle.async_packet.specs.Labels.{LabelParts}
use Rattle.bus_transactions.specs.Fitting.{IsLayer}
use Rattle.bus_transactions.proofs.FitSteps.{expires_same, goes}
use Rattle.label_table.specs.History.{Told, and_before, ended, expired, is_same, lets_expire, life, told_by_expiring, under_way}
use Rattle.label_table.specs.History as wire
use Rattle.label_table.specs.Layer.{Layer, expiring_step, seeing_step}
use Rattle.label_table.specs.Peers.{state_for}
use Rattle.label_table.specs.declared.judgement.Asked.{Asked}
use Rattle.label_table.specs.declared.reply.ReplyKind.{ReplyKind}
use Rattle.label_table.specs.declared.reply.Stale.{Stale}
use Rattle.label_table.proofs.Calls.{after_kept, told_law}
use Rattle.sbp_initiator.specs.Acting.{act_step, asked_as, asked_for, demand_of, done_step, facts_with, judged_as}
use Rattle.sbp_initiator.specs.Effects.{Turn, ended_for}
use Rattle.sbp_initiator.specs.Histories.Begins.{IsFree, after_by, begun_as}
use Rattle.sbp_initiator.specs.Histories.Ends.{is_managed}
use Rattle.sbp_initiator.specs.Receiving.{called, expire_step, expired_as}
use Rattle.sbp_initiator.specs.Refusals.{refusal}
use Rattle.sbp_initiator.specs.Refusals as refusals
use Rattle.sbp_initiator.specs.Seeing.{see_step}
use Rattle.sbp_initiator.specs.States.{wanted_body}
use Rattle.sbp_initiator.specs.declared.purpose.Demand.{Demand}
use Rattle.sbp_initiator.specs.declared.purpose.Ending.TheVariants as endings
use Rattle.sbp_initiator.specs.declared.purpose.Purpose.{Purpose}
use Rattle.sbp_initiator.specs.declared.purpose.Purpose.TheVariants as purposes
use Rattle.sbp_initiator.specs.declared.purpose.Wanted.TheVariants as wants
use Rattle.sbp_initiator.specs.declared.purpose.Running.{Running}
use Rattle.sbp_initiator.specs.declared.state.InitiatorState.{InitiatorState}
use Rattle.sbp_initiator.proofs.Histories.Effects.{Fits}
use Rattle.sbp_initiator.proofs.Histories.Lives.{of_same}
use Rattle.sbp_initiator.proofs.Histories.Purposes.{IfFor}
use Rattle.sbp_journal.specs.Outgoings.{empty_outbox}
use Rattle.sbp_journal.specs.Run.{Moment}
use Rattle.sbp_journal.specs.Wire.{terms}
use Rattle.sbp_journal.specs.declared.event.Action.{Action}
use Rattle.sbp_journal.specs.declared.event.Action.TheVariants as actions
use Rattle.sbp_journal.specs.declared.operation.Operation.{Operation}
use Rattle.sbp_journal.specs.declared.operation.Operation.TheVariants as operations
use Rattle.sbp_journal.specs.declared.outbox.Outgoing.{Outgoing}
use Rattle.sbp_world.specs.Hosts.Calling.{IsCalled}
use Rattle.sbp_world.proofs.Common.{none_is, some_none, untrue}
use Rattle.sbp_laws.specs.Hosts.{operation_of}
use Rattle.sbp_world.proofs.Hosts.ActLeft.{ActLeft, HasAsked, act_left}
use Rattle.sbp_world.proofs.Hosts.Aimed.{Aims, IsAimed}
use Rattle.sbp_world.proofs.Hosts.Hosted.{expires_fit, marks_of}
use Rattle.sbp_world.proofs.Hosts.KnowHears.{IfExpires}
use Rattle.sbp_world.proofs.Hosts.Layered.{expire_left}
use Rattle.sbp_world.proofs.Hosts.Requested.{AreRequests}
use Rattle.sbp_world.proofs.Hosts.Lives.{At, AskedAt, Called, ask_at, ask_begins, ask_keeps, asked_now, at_life, expire_at, was_asked}
use Rattle.sbp_world.proofs.Hosts.Pointed.{expiring_stays}
use Rattle.sbp_world.proofs.Hosts.Pointing.{asked_generation}
use Rattle.sbp_world.proofs.Lists.ManageActs.{act_operation, same_operation}
use Rattle.sbp_world.proofs.Lists.ManageHears.{lapses_left}
use Rattle.sbp_world.proofs.Pointers.Asks.{act_allowed}
use Rattle.sbp_world.proofs.Pointers.Finds.{expires_at, none_ended, same_serial}
use Rattle.sbp_world.proofs.Pointers.WaitActs.{none_seen}
use Rattle.sbp_world.proofs.Pointers.Leaving.{LapsedFor, expire_goes}
use Rattle.turn_laws.proofs.OwnTurns.{by_life}
use Rattle.turn_laws.proofs.RomLabels.{CallRom, IsGone, OneRom, RomAt, WasSo, Within, called_layer, ended_call, from, next_call, plainly, same_rom, sends_none}
use Rattle.sbp_world.proofs.Lists.ManageLeaves.{was_by}
use Rattle.sbp_world.proofs.Lists.ManageSees.{none_later}

-- ---- a transaction that timed out is over
module _ (layer : Layer Purpose) (peer : ℕ) (label : LabelParts) (purpose : Option Purpose) (c : Called layer) (f : (expiring_step layer peer label).0 ≡ Ok purpose) where
  abbrev old : Layer Purpose
  old = wire.after c.node c.calls

  abbrev notes : List (Told Purpose)
  notes = wire.history c.node c.calls

  g : (expiring_step old peer label).0 ≡ Ok purpose
  g = ap (λ (l : Layer Purpose). (expiring_step l peer label).0) c.is ∙ f

  was_told : wire.AreTold (expired peer label purpose ∷ notes)
  was_told = subst (λ (x : Result (Option Purpose) Stale). wire.AreTold (and_before (told_by_expiring peer label x) notes)) g (told_law Purpose c.node (lets_expire peer label ∷ c.calls))

  same_name : (name : LabelParts) (kind : ReplyKind) (q : Option Purpose) → name.number ≡ label.number → life peer name notes ≡ under_way kind q → is_same peer label peer name ≡ true
  same_name name kind q n w =
      by_life (life peer label notes) purpose was_told.0 (λ own is.
      let agree = (after_kept c.node c.calls).agree in
      let a = agree.stands peer label own purpose is in
      let b = agree.stands peer name kind q w in
      of_same peer label peer name (record {
        peer = refl;
        number = sym n;
        generation = agree.now peer label own purpose is ∙ sym (agree.now peer name kind q w);
        serial = same_serial own kind label.serial name.serial (sym a ∙ ap (state_for old.peers peer) (sym n) ∙ b);
      }))

  over_by : (b : Bool) (name : LabelParts) (kind : ReplyKind) (q : Option Purpose) → is_same peer label peer name ≡ b → name.number ≡ label.number → cond b (ended (life peer name notes)) (life peer name notes) ≡ under_way kind q → ⊥
  over_by true name kind q e n w = none_ended (life peer name notes) kind q w
  over_by false name kind q e n w = untrue (sym e ∙ same_name name kind q n w)

  expired_over : (q : Option Purpose) → At (expiring_step layer peer label).1 peer label.number q → ⊥
  expired_over q a =
      let call = lets_expire peer label in
      let now = wire.after c.node (call ∷ c.calls) in
      let b : At now peer label.number q = subst (λ (l : Layer Purpose). At (expiring_step l peer label).1 peer label.number q) (sym c.is) a in
      let name : LabelParts = record { number = label.number; generation = now.generation; serial = b.serial } in
      over_by (is_same peer label peer name) name b.kind q refl refl
      (subst (λ (x : Result (Option Purpose) Stale). life peer name (and_before (told_by_expiring peer label x) notes) ≡ under_way b.kind q) g (at_life c.node (call ∷ c.calls) peer label.number q b))

-- ---- what an action leaves: the labels and the operation, with a request under another label or with none; or what it begins
pub record LeavesRom (s : InitiatorState) (t : Turn) : Type 0 where
  pub back : (n a : ℕ) → RomAt t.1.layer t.1.target n a → RomAt s.layer s.target n a
  pub generation : t.1.layer.generation ≡ s.layer.generation
  pub was : (r : Running) → t.1.operation ≡ Some r → r.operation ≡ operations.Rom → s.operation ≡ Some r
  pub one : OneRom t.1

pub data After (action : Action) (s : InitiatorState) (r : Running) : Type 0 where
  went_on : s.operation ≡ Some r → After action s r
  begun : (operation : Operation) → operation_of action ≡ Some operation → s.operation ≡ None → After action s r

pub data ActRom (s : InitiatorState) (t : Turn) : Type 0 where
  act_quiet : LeavesRom s t → t.0.packets ≡ [] → ActRom s t
  act_other : LeavesRom s t → (asked : Asked) (packet : Outgoing) → t.0.packets ≡ packet ∷ [] → packet.label ≡ Some asked.label → ((n a : ℕ) → RomAt t.1.layer t.1.target n a → n ≡ asked.label.number → ⊥) → ActRom s t

module _ (ready : Bool) (i : ℕ) (s : InitiatorState) (own : IsCalled ready i s) (aims : Aims s.layer s.target) (valid : IsLayer s.layer) (small : s.target < 2 ^ 16) (h : OneRom s) where
  c : Called s.layer
  c = called_layer ready i s own aims valid small h

  -- ---- a time-out
  module _ (label : LabelParts) where
    abbrev late_layer : Layer Purpose
    late_layer = (expiring_step s.layer s.target label).1

    abbrev found : Result (Option Purpose) Stale
    found = (expiring_step s.layer s.target label).0

    abbrev late_turn : Turn
    late_turn = (expire_step label empty_outbox s).1

    called_late : Called late_layer
    called_late = record { node = c.node; calls = lets_expire s.target label ∷ c.calls; is = ap (λ (l : Layer Purpose). (expiring_step l s.target label).1) c.is }

    valid_late : IsLayer late_layer
    valid_late = goes s.layer (lets_expire s.target label) (expires_same s.layer s.target label) valid

    back : (n a : ℕ) → RomAt late_layer s.target n a → RomAt s.layer s.target n a
    back n a x = expire_at s.layer s.target label s.target n (Some (purposes.Rom a)) c x

    was : (t : Turn) → late_turn ≡ t → WasSo s t
    was t is r e = was_by s late_turn.1 _ (lapses_left s label (expires_fit ready i s own label)) r (ap (λ (x : Turn). x.1.operation) is ∙ e)

    target : (t : Turn) → late_turn ≡ t → t.1.target ≡ s.target
    target t is = ap (λ (x : Turn). x.1.target) (sym is) ∙ (expire_left label s).target_is

    gone : (purpose : Option Purpose) → found ≡ Ok purpose → (a : ℕ) → purpose ≡ Some (purposes.Rom a) → IsGone ready i s own aims valid small h late_layer a
    gone purpose e a f =
        let k = e ∙ ap (λ (q : Option Purpose). Ok q) f in
        record {
          number = label.number;
          at = expires_at s.layer s.target label (Some (purposes.Rom a)) c k;
          none = λ b x. expired_over s.layer s.target label (Some (purposes.Rom a)) c k (Some (purposes.Rom b)) x;
        }

    by_found : (x : Result (Option Purpose) Stale × Layer Purpose) → expiring_step s.layer s.target label ≡ x → late_turn ≡ (expired_as x empty_outbox s).1 → CallRom s (expired_as x empty_outbox s).1
    by_found (Ok purpose, l) e is =
        let f = ap (λ (y : Result (Option Purpose) Stale × Layer Purpose). y.0) e in
        ended_call ready i s own aims valid small h late_layer called_late valid_late (expiring_stays s.layer s.target label) back _ (target _ is) (was _ is) endings.Expired purpose
        (fits_by purpose (subst (λ (y : Result (Option Purpose) Stale). IfExpires y s) f (expires_fit ready i s own label)))
        (λ n a x. forth n a (expire_goes s.layer s.target n (Some (purposes.Rom a)) c x s.target label)) (gone purpose f)
        (ap (λ (y : Layer Purpose). ended_for purpose endings.Expired empty_outbox (called (record s { layer = y }))) (sym (ap (λ (y : Result (Option Purpose) Stale × Layer Purpose). y.1) e)))
      where
        fits_by : (purpose : Option Purpose) → IfExpires (Ok purpose) s → IfFor (λ q. Fits q s.operation) purpose
        fits_by None x = tt
        fits_by (Some q) x = x.0

        forth : (n a : ℕ) → RomAt late_layer s.target n a ⊎ LapsedFor found (Some (purposes.Rom a)) → RomAt late_layer s.target n a ⊎ (purpose ≡ Some (purposes.Rom a))
        forth n a (inl y) = inl y
        forth n a (inr y) = inr (subst (λ (z : Result (Option Purpose) Stale). LapsedFor z (Some (purposes.Rom a))) (ap (λ (y : Result (Option Purpose) Stale × Layer Purpose). y.0) e) y)
    by_found (Err stale, l) e is =
        let k = ap (λ (y : Result (Option Purpose) Stale × Layer Purpose). y.1) e in
        plainly ready i s own aims valid small h late_layer called_late valid_late (expiring_stays s.layer s.target label) back _ (target _ is) (was _ is) (ap (λ (y : Layer Purpose). y.peers) (sym k)) (ap (λ (y : Layer Purpose). y.generation) (sym k))
        (λ n a x. forth n a (expire_goes s.layer s.target n (Some (purposes.Rom a)) c x s.target label)) (λ r o m. o) (sends_none refl)
      where
        forth : (n a : ℕ) → RomAt late_layer s.target n a ⊎ LapsedFor found (Some (purposes.Rom a)) → RomAt late_layer s.target n a
        forth n a (inl y) = y
        forth n a (inr y) = absurd (subst (λ (z : Result (Option Purpose) Stale). LapsedFor z (Some (purposes.Rom a))) (ap (λ (y : Result (Option Purpose) Stale × Layer Purpose). y.0) e) y)

    pub late_call : CallRom s late_turn
    unfolding expire_step
    late_call = by_found (expiring_step s.layer s.target label) refl refl

  -- ---- an action
  abbrev demand : Demand
  demand = record { wanted = wants.Read 0xffff_f000_0400; purpose = purposes.Rom s.counts.acts }

  rom_asked : (r : Option Asked × Layer Purpose) → asked_for demand s ≡ r → s.operation ≡ None → (asked_as r actions.Rom empty_outbox s).0 ≡ None → CallRom s (asked_as r actions.Rom empty_outbox s).1
  unfolding done_step
  rom_asked (None, l) step free e = some_none 10 e
  rom_asked (Some asked, l) step free e =
      next_call s h (asked_as (Some asked, l) actions.Rom empty_outbox s).1 refl small s.layer valid c (λ n a x. (let k = h.runs n a x in none_is k.running (sym free ∙ k.is))) 0xffff_f000_0400 asked (record { operation = operations.Rom; act = s.counts.acts; managed = None }) (omega arith) refl refl step refl

  rom_judged : (refused : Option ℕ) → s.operation ≡ None → (judged_as refused actions.Rom empty_outbox s).0 ≡ None → CallRom s (judged_as refused actions.Rom empty_outbox s).1
  rom_judged (Some number) free e = some_none number e
  rom_judged None free e = rom_asked (asked_for demand s) refl free e

  pub rom_act : (act_step actions.Rom empty_outbox s).0 ≡ None → CallRom s (act_step actions.Rom empty_outbox s).1
  unfolding act_step
  rom_act e = rom_judged (refusal actions.Rom (facts_with true s actions.Rom)) (act_allowed actions.Rom s e).free e

  -- one of anything else
  module _ (action : Action) (plain : (d : Demand) (a : ℕ) → demand_of action s ≡ Some d → d.purpose ≡ purposes.Rom a → ⊥) (apart : (operation : Operation) → refusals.operation_of action ≡ Some operation → operation ≡ operations.Rom → ⊥) (done_is : (act_step action empty_outbox s).0 ≡ None) where
    abbrev act_turn : Turn
    act_turn = (act_step action empty_outbox s).1

    left : ActLeft action s act_turn
    left = act_left action s done_is

    abbrev begins : Option Operation
    begins = refusals.operation_of action

    operation_now : act_turn.1.operation ≡ after_by begins s
    operation_now = act_operation action s (act_allowed action s done_is) (marks_of ready i s own) done_is

    -- what is under way behind it was so before, or it begins
    pub act_after : (r : Running) → act_turn.1.operation ≡ Some r → After action s r
    act_after r e = by begins refl (sym operation_now ∙ e) (act_allowed action s done_is).free
      where
        by : (x : Option Operation) → begins ≡ x → after_by x s ≡ Some r → IsFree x s → After action s r
        by None f g free = went_on g
        by (Some operation) f g free = begun operation (same_operation action ∙ f) free

    act_was : (r : Running) → act_turn.1.operation ≡ Some r → r.operation ≡ operations.Rom → s.operation ≡ Some r
    act_was r e k = by begins refl (sym operation_now ∙ e)
      where
        began : (b : Bool) (operation : Operation) → Some (begun_as b operation s) ≡ Some r → operation ≡ r.operation
        began true operation f = cc
        began false operation f = cc

        by : (x : Option Operation) → begins ≡ x → after_by x s ≡ Some r → s.operation ≡ Some r
        by None f g = g
        by (Some operation) f g = absurd (apart operation f (began (is_managed operation) operation g ∙ k))

    act_now : (r : Running) → s.operation ≡ Some r → r.operation ≡ operations.Rom → act_turn.1.operation ≡ Some r
    act_now r e k = operation_now ∙ by begins (act_allowed action s done_is).free
      where
        by : (x : Option Operation) → IsFree x s → after_by x s ≡ Some r
        by None f = e
        by (Some operation) f = none_is r (sym f ∙ e)

    leaves : Within act_turn.1.layer s.layer s.target → Within s.layer act_turn.1.layer s.target → act_turn.1.layer.generation ≡ s.layer.generation → LeavesRom s act_turn
    leaves back forth g = record { back = from s h act_turn left.target_is back forth g act_was act_now; generation = g; was = act_was; one = same_rom s h act_turn left.target_is back forth g act_was act_now }

    module _ (packet : Outgoing) (one : act_turn.0.packets ≡ packet ∷ []) where
      x : HasAsked action s packet act_turn.1.layer
      x = left.asking packet one

      asking_back : (n a : ℕ) → RomAt act_turn.1.layer s.target n a → RomAt s.layer s.target n a
      asking_back n a at = by (ask_at s.layer s.target (wanted_body x.demand.wanted) x.demand.purpose x.asked act_turn.1.layer s.target n (Some (purposes.Rom a)) c x.step at)
        where
          same_some : (p q : Purpose) → Some p ≡ Some q → q ≡ p
          same_some p q e = cc

          by : AskedAt s.layer s.target x.asked x.demand.purpose s.target n (Some (purposes.Rom a)) → RomAt s.layer s.target n a
          by (asked_now p e f) = absurd (plain x.demand a x.is (same_some _ _ f))
          by (was_asked y) = y

      forth : (n a : ℕ) → RomAt s.layer s.target n a → RomAt act_turn.1.layer s.target n a
      forth n a at = ask_keeps s.layer s.target (wanted_body x.demand.wanted) x.demand.purpose x.asked act_turn.1.layer c x.step s.target n (Some (purposes.Rom a)) at

      begins_at : At act_turn.1.layer s.target x.asked.label.number (Some x.demand.purpose)
      begins_at = ask_begins s.layer s.target (wanted_body x.demand.wanted) x.demand.purpose x.asked act_turn.1.layer c x.step

      other_label : (n a : ℕ) → RomAt act_turn.1.layer act_turn.1.target n a → n ≡ x.asked.label.number → ⊥
      other_label n a at e =
          let here : RomAt act_turn.1.layer s.target x.asked.label.number a = subst (λ m. RomAt act_turn.1.layer s.target m a) e (subst (λ p. RomAt act_turn.1.layer p n a) left.target_is at) in
          plain x.demand a x.is (same_some _ _ (sym begins_at.is_for ∙ here.is_for))
        where
          same_some : (p q : Purpose) → Some p ≡ Some q → p ≡ q
          same_some p q e = cc

      asking_call : ActRom s act_turn
      asking_call = act_other (leaves asking_back forth (asked_generation s.layer s.target (wanted_body x.demand.wanted) x.demand.purpose x.asked act_turn.1.layer x.step)) x.asked packet one x.label other_label

    quiet_call : act_turn.0.packets ≡ [] → ActRom s act_turn
    quiet_call none =
        let layer_is = left.quiet none in
        act_quiet (leaves (λ n a y. subst (λ (l : Layer Purpose). RomAt l s.target n a) layer_is y) (λ n a y. subst (λ (l : Layer Purpose). RomAt l s.target n a) (sym layer_is) y) (ap (λ (l : Layer Purpose). l.generation) layer_is)) none

    pub other_act : AreRequests s.target act_turn.0.packets → ActRom s act_turn
    other_act r = by act_turn.0.packets refl r
      where
        by : (ps : List Outgoing) → act_turn.0.packets ≡ ps → AreRequests s.target ps → ActRom s act_turn
        by [] e r = quiet_call e
        by (packet ∷ []) e r = asking_call packet e
        by (packet ∷ other ∷ more) e r = absurd r

-- ---- a sight of a later generation: no label is left, and no operation
module _ (ready : Bool) (generation id target : ℕ) (past : List Moment) (i : ℕ) (s : InitiatorState) where
  pub seen_rom : (seeing_step s.layer generation id).0 ≡ not (generation == (terms past).generation (suc i)) → IsAimed ready i s → nat_lt s.layer.generation generation ≡ true → OneRom (see_step generation id target empty_outbox s).1
  seen_rom flag aimed later =
      let none = none_seen ready generation id target past i s flag aimed later in
      let t = see_step generation id target empty_outbox s in
      record {
        runs = λ n a x. absurd (none t.1.target n (Some (purposes.Rom a)) x);
        one = λ n a m b x y. absurd (none t.1.target n (Some (purposes.Rom a)) x);
        has = λ r e k. none_is r (sym (none_later generation id target s later) ∙ e);
      }
