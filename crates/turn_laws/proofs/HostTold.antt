-- What an initiator tells as it hears and waits in vain: the block that it takes or is told, and behind it what its list, its operations and its session come to.
use Rattle.std.proofs.Common.{cond, nat_lt, ◌∷◌, ◌≡◌, refl, sym, ◌∙◌, ap, subst, ℕ, Bool, true, false, List, [], ◌++◌, Option, Some, None, Result, Ok, Err}
use Rattle.async_packet.specs.Labels.{LabelParts}
use Rattle.async_packet.specs.Packet.{Packet, header_in}
use Rattle.label_table.specs.declared.reply.Stale.{Stale}
use Rattle.label_table.specs.Layer.{Finding, Layer, answering_step, expiring_step, judging_step, of_again, of_generation, of_grammar, of_label, of_request, of_response}
use Rattle.orb_list.specs.declared.list.PresentList.{PresentList}
use Rattle.sbp_journal.specs.declared.cause.Judged.{Judged}
use Rattle.sbp_journal.specs.declared.note.Note.{Note}
use Rattle.sbp_journal.specs.declared.operation.Operation.{Operation}
use Rattle.sbp_journal.specs.declared.operation.Operation.TheVariants as operations
use Rattle.sbp_journal.specs.declared.operation.OpWord.{OpWord}
use Rattle.sbp_journal.specs.Outgoings.{OutboxState, empty_outbox}
use Rattle.sbp_initiator.specs.declared.purpose.Ending.{Ending}
use Rattle.sbp_initiator.specs.declared.purpose.Ending.TheVariants as endings
use Rattle.sbp_initiator.specs.declared.purpose.Purpose.{Purpose}
use Rattle.sbp_initiator.specs.declared.purpose.Purpose.TheVariants as purposes
use Rattle.sbp_initiator.specs.declared.purpose.Running.{Running}
use Rattle.sbp_initiator.specs.declared.state.InitiatorState.{InitiatorState}
use Rattle.sbp_initiator.specs.Effects.{Turn, ended_for}
use Rattle.sbp_initiator.specs.Receiving.{called, expire_step, expired_as, receive_step, received}
use Rattle.sbp_initiator.specs.Seeing.{all_end, reset_told, resets_told, states_end}
use Rattle.sbp_initiator.specs.States.{ending_of}
use Rattle.sbp_initiator.specs.Histories.Drops.{drop_if, ends_the_list}
use Rattle.sbp_initiator.specs.Histories.Ends.{OpEnd, fails_write, notes_of, own, read_ends, sticks_by}
use Rattle.sbp_initiator.specs.Histories.Taking.{block_notes, finding_drops, finding_note}
use Rattle.sbp_initiator.proofs.Histories.Effects.{Fits, ended_does}
use Rattle.sbp_initiator.proofs.Histories.Over.{sound}
use Rattle.sbp_initiator.proofs.Histories.Purposes.{IfFor}
use Rattle.sbp_initiator.proofs.Histories.Requests.{HasOrb, request_answers}
use Rattle.sbp_world.specs.Hosts.Calling.{IsCalled}
use Rattle.sbp_world.proofs.Hosts.Hosted.{expires_fit, hears_fit}
use Rattle.sbp_world.proofs.Hosts.KnowEnds.{Points}
use Rattle.sbp_world.proofs.Hosts.KnowHears.{IfExpires, IfFits}
use Rattle.sbp_world.proofs.Hosts.Statuses.Hearing.{answer_silent, served}

abbrev pub told_notes : ℕ → Option Note → Option ℕ → Option OpEnd → Option OpWord → Bool → List Note
told_notes number first drop op state stuck = block_notes first ++ notes_of number drop op state stuck

-- this block and this list, and what else
pub record IsTold (s : InitiatorState) (first : Option Note) (drop : Option ℕ) (t : Turn) : Type 0 where
  pub op : Option OpEnd
  pub state : Option OpWord
  pub stuck : Bool
  pub sides : t.0.sides ≡ own (told_notes s.number first drop op state stuck)

-- nothing
silent : (s : InitiatorState) (t : Turn) → t.0.sides ≡ [] → IsTold s None None t
silent s t e = record { op = None; state = None; stuck = false; sides = e }

-- ---- the end of a transaction
abbrev pub drops_by : Option Purpose → Ending → Option PresentList → Bool
drops_by None ending present = false
drops_by (Some purpose) ending present = ends_the_list purpose ending present

abbrev IfEnds : Option Purpose → InitiatorState → Type 0
IfEnds purpose s = IfFor (λ p. Fits p s.operation × Points p s.lists.slots.present s.marks.pointing) purpose

ended_told : (purpose : Option Purpose) (ending : Ending) (s : InitiatorState) → IfEnds purpose s → IsTold s None (drop_if (drops_by purpose ending s.lists.slots.present) s.lists.slots.present) (ended_for purpose ending empty_outbox s)
ended_told None ending s f = silent s (empty_outbox, s) refl
ended_told (Some purpose) ending s f =
    let d = (ended_does purpose ending empty_outbox s f.0).does in
    record { op = d.op; state = read_ends purpose ending; stuck = sticks_by (fails_write purpose ending) s.seat; sides = d.sides }

-- ---- a time-out, which drops no list
late_drops : (purpose : Option Purpose) (present : Option PresentList) → drops_by purpose endings.Expired present ≡ false
late_drops None present = refl
late_drops (Some (purposes.AgentReset act)) present = refl
late_drops (Some (purposes.Enable act)) present = refl
late_drops (Some (purposes.Rom act)) present = refl
late_drops (Some (purposes.Management act)) present = refl
late_drops (Some (purposes.State act list)) present = refl
late_drops (Some (purposes.Pointer list)) present = refl
late_drops (Some purposes.Doorbell) present = refl

expired_told : (r : Result (Option Purpose) Stale) (layer : Layer Purpose) (s : InitiatorState) → IfExpires r s → IsTold s None None (expired_as (r, layer) empty_outbox s).1
expired_told (Err stale) layer s f = silent s _ refl
expired_told (Ok purpose) layer s f =
    let u = called (record s { layer = layer }) in
    let k = ended_told purpose endings.Expired u f in
    record {
      op = k.op;
      state = k.state;
      stuck = k.stuck;
      sides = k.sides ∙ ap (λ b. own (told_notes s.number None (drop_if b s.lists.slots.present) k.op k.state k.stuck)) (late_drops purpose s.lists.slots.present);
    }

pub expire_told : (ready : Bool) (i : ℕ) (s : InitiatorState) → IsCalled ready i s → (label : LabelParts) → IsTold s None None (expire_step label empty_outbox s).1
unfolding expire_step
expire_told ready i s h label = expired_told (expiring_step s.layer s.target label).0 (expiring_step s.layer s.target label).1 s (expires_fit ready i s h label)

-- ---- a delivery
module _ (ready : Bool) (i : ℕ) (s : InitiatorState) (h : IsCalled ready i s) (generation : ℕ) (bytes : List ℕ) where
  abbrev pub heard : Turn
  heard = (receive_step generation bytes empty_outbox s).1

  abbrev pub Tells : Finding Purpose → Turn → Type 0
  Tells f t = IsTold s (finding_note f s) (drop_if (finding_drops f s) s.lists.slots.present) t

  closed_told : (p : Packet) (label : LabelParts) (purpose : Option Purpose) (layer : Layer Purpose) → IfEnds purpose s → Tells (of_response p label purpose) (ended_for purpose (ending_of p) empty_outbox (called (record s { layer = layer })))
  closed_told p label None layer f = silent s _ refl
  closed_told p label (Some purpose) layer f =
      let k = ended_told (Some purpose) (ending_of p) (called (record s { layer = layer })) f in
      record { op = k.op; state = k.state; stuck = k.stuck; sides = k.sides }

  by_finding : (f : Finding Purpose) (layer : Layer Purpose) → judging_step s.layer generation bytes ≡ (f, layer) → IfFits f s → receive_step generation bytes empty_outbox s ≡ received (f, layer) bytes empty_outbox s → Tells f heard
  by_finding of_generation layer e f is = subst (λ (r : Judged × Turn). Tells of_generation r.1) (sym is) (silent s _ refl)
  by_finding of_grammar layer e f is = subst (λ (r : Judged × Turn). Tells of_grammar r.1) (sym is) (silent s _ refl)
  by_finding of_label layer e f is = subst (λ (r : Judged × Turn). Tells of_label r.1) (sym is) (silent s _ refl)
  by_finding (of_response p label purpose) layer e f is = subst (λ (r : Judged × Turn). Tells (of_response p label purpose) r.1) (sym is) (closed_told p label purpose layer f)
  by_finding (of_again p rcode) layer e f is =
      subst (λ (r : Judged × Turn). Tells (of_again p rcode) r.1) (sym is)
      (silent s _ (answer_silent (answering_step layer p bytes rcode []) (header_in p).source empty_outbox (record s { layer = layer })))
  by_finding (of_request p) layer e f is =
      let a = request_answers bytes empty_outbox s (subst (λ (x : InitiatorState). HasOrb x.operation) h.is (sound i ready h.calls).orb) p in
      subst (λ (r : Judged × Turn). Tells (of_request p) r.1) (sym (served s generation bytes p (ap (λ (x : Finding Purpose × Layer Purpose). x.0) e)))
      (record { op = a.op; state = None; stuck = false; sides = a.sides })

  pub receive_told : Tells (judging_step s.layer generation bytes).0 heard
  unfolding receive_step
  receive_told = let found = judging_step s.layer generation bytes in by_finding found.0 found.1 refl (hears_fit ready i s h generation bytes) refl

-- ---- a sight ends operations one by one
module _ (number : ℕ) (P : OutboxState → Type 0) (step : (operation : Operation) (o : OutboxState) → P o → P (reset_told number operation o)) where
  either : (b : Bool) (x y : OutboxState) → P x → P y → P (cond b x y)
  either true x y h k = h
  either false x y h k = k

  states_keep : (acts : List ℕ) (o : OutboxState) → P o → P (states_end number acts o)
  states_keep [] o h = h
  states_keep (act ∷ acts) o h = states_keep acts (reset_told number operations.State o) (step operations.State o h)

  all_keep : (running : Running) (acts : List ℕ) (o : OutboxState) → P o → P (all_end number running acts o)
  all_keep running [] o h = step running.operation o h
  all_keep running (act ∷ acts) o h =
      either (nat_lt running.act act) _ _ (states_keep (act ∷ acts) (reset_told number running.operation o) (step running.operation o h))
      (all_keep running acts (reset_told number operations.State o) (step operations.State o h))

  pub resets_keep : (operation : Option Running) (acts : List ℕ) (o : OutboxState) → P o → P (resets_told number operation acts o)
  resets_keep None acts o h = states_keep acts o h
  resets_keep (Some running) acts o h = all_keep running acts o h
