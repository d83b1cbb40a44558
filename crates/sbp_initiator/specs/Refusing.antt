-- The law of refusals.
use Rattle.std.specs.Prelude.{◌≡◌, ℕ, is_some, Bool, true, Option, Some, None}
use Rattle.sbp_journal.specs.declared.event.Action.{Action}
use Rattle.sbp_journal.specs.Outgoings.{OutboxState}
use Rattle.sbp_initiator.specs.declared.purpose.Demand.{Demand}
use Rattle.sbp_initiator.specs.declared.state.InitiatorState.{InitiatorState}
use Rattle.sbp_initiator.specs.Acting.{act_step, asked_for, demand_of, facts_with}
use Rattle.sbp_initiator.specs.Refusals.{refusal}

-- the request of an action finds a label, where it has one
abbrev pub finds_for : Option Demand → InitiatorState → Bool
finds_for None s = true
finds_for (Some demand) s = is_some (asked_for demand s).0

abbrev pub finds_label : Action → InitiatorState → Bool
finds_label action s = finds_for (demand_of action s) s

-- A refused action changes nothing, and has the number of the first row that holds.
pub record RefusalLaw : Type 0 where
  pub unchanged : (action : Action) (o : OutboxState) (s : InitiatorState) (number : ℕ) → (act_step action o s).0 ≡ Some number → (act_step action o s).1 ≡ (o, s)
  pub first : (action : Action) (o : OutboxState) (s : InitiatorState) → (act_step action o s).0 ≡ refusal action (facts_with (finds_label action s) s action)
