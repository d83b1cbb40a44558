-- What a refused action answers and leaves.
use Rattle.std.proofs.Common.{arith, ◌≡◌, ap, ℕ, true, Option, Some}
use Rattle.sbp_journal.specs.declared.event.Action.{Action}
use Rattle.sbp_journal.specs.Outgoings.{OutboxState}
use Rattle.sbp_initiator.specs.declared.state.InitiatorState.{InitiatorState}
use Rattle.sbp_initiator.specs.Refusals.{refusal}
use Rattle.sbp_initiator.specs.Acting.{act_step, facts_with, judged_as}
use Rattle.sbp_initiator.specs.Counted.{Counts}

pub refused_is : (action : Action) (o : OutboxState) (s : InitiatorState) (number : ℕ) → Some number ≡ refusal action (facts_with true s action) → (Some number, (o, s)) ≡ act_step action o s
unfolding act_step
refused_is action o s number e = ap (λ (r : Option ℕ). judged_as r action o s) e

pub counts_stay : (s : InitiatorState) → Counts s s
counts_stay s = record {
  managed = omega arith;
  logins = omega arith;
  running = omega arith;
  prepared = omega arith;
  called = omega arith;
  labelled = omega arith;
}
