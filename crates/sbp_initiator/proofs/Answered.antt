-- What a call tells and counts whose steps are followed by an answer.
use Rattle.std.proofs.Common.{arith, ◌≡◌, ◌∙◌, ap, sym, ◌≤◌, ℕ, List, Option, Some, Result, Ok, Err}
use Rattle.std.specs.Result.{IfOk}
use Rattle.sbp_base.specs.declared.outside.NoMemory.{NoMemory}
use Rattle.async_packet.specs.Packet.{Packet}
use Rattle.sbp_journal.specs.declared.cause.Judged.{Judged}
use Rattle.sbp_journal.specs.Outgoings.{OutboxState}
use Rattle.sbp_initiator.specs.declared.purpose.Running.{Running}
use Rattle.sbp_initiator.specs.declared.state.Counts.{Counts as Numbers}
use Rattle.sbp_initiator.specs.declared.state.InitiatorState.{InitiatorState}
use Rattle.orb_list.specs.Lists.{ListState}
use Rattle.sbp_initiator.specs.Effects.{Keeps, Turn, managed_step}
use Rattle.sbp_initiator.specs.Receiving.{called, got_step, managed_for}
use Rattle.sbp_initiator.specs.Counted.{Counts}

-- the call is counted, then these are its steps
pub counts_kept : (s t u : InitiatorState) → t ≡ called s → Keeps 2 0 t u → Counts s u
counts_kept s t u e k =
    let n = k.counts ∙ ap (λ (x : InitiatorState). x.counts) e in
    let managed = ap (λ (x : Numbers). x.managed) n in
    let logins = ap (λ (x : Numbers). x.logins) n in
    let running = ap (λ (x : Numbers). x.running) n in
    let acts = ap (λ (x : Numbers). x.acts) n in
    let calls = ap (λ (x : Numbers). x.calls) n in
    let prepared = k.prepared ∙ ap (λ (x : InitiatorState). x.lists.slots.acts) e in
    let slots = ap (λ (x : InitiatorState). x.lists.slots.calls) e in
    let labels = ap (λ (x : InitiatorState). x.layer.calls) e in
    record {
      managed = omega (arith, managed, acts);
      logins = omega (arith, logins, acts);
      running = omega (arith, running, acts);
      prepared = omega (arith, prepared, acts);
      called = omega (arith, k.called, slots, calls);
      labelled = omega (arith, k.labelled, labels, calls);
    }

-- and then the answer
pub counts_answered : (s t u v : InitiatorState) → t ≡ called s → Keeps 2 0 t u → v.counts ≡ u.counts → v.lists ≡ u.lists → v.layer.calls ≤ u.layer.calls → Counts s v
counts_answered s t u v e k f g h =
    let prepared = ap (λ (x : ListState). x.slots.acts) g in
    let slots = ap (λ (x : ListState). x.slots.calls) g in
    counts_kept s t v e (record { counts = f ∙ k.counts; prepared = prepared ∙ k.prepared; called = omega (arith, slots, k.called); labelled = omega (arith, h, k.labelled) })

-- the status of the operation under way ends it, and is answered
pub managed_told : (result : Result Judged NoMemory) (found : Option Running) (running : Running) (status : ℕ) (p : Packet) (bytes : List ℕ) (o left after : OutboxState) (s t u v : InitiatorState) → found ≡ Some running → t ≡ called s → (left, u) ≡ managed_step running status o t → IfOk result (λ judged. (judged, (after, v)) ≡ got_step p bytes (left, u)) → IfOk result (λ judged. (judged, (after, v)) ≡ managed_for found status p bytes o s)
managed_told (Ok judged) found running status p bytes o left after s t u v f e m g =
    g ∙ ap (λ (turn : Turn). got_step p bytes turn) (m ∙ ap (λ (x : InitiatorState). managed_step running status o x) e)
    ∙ ap (λ (x : Option Running). managed_for x status p bytes o s) (sym f)
managed_told (Err memory) found running status p bytes o left after s t u v f e m g = tt
