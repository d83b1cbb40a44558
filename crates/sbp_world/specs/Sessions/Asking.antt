-- What an initiator does as an operation with a management ORB begins (NCITS 325-1998, management agent): it puts its ORB into the next place, and writes the address of
-- that place to MANAGEMENT_AGENT, with its one packet to the target. So it does in every run, in each line in which such an action is not refused.
use Rattle.std.specs.Prelude.{◌≡◌, ◌<◌, ℕ, is_some, true, [], ◌∷◌, Some, None}
use Rattle.bus_memory.specs.Memory.{place_at}
use Rattle.sbp_world.specs.Hosts.Runs.{IsRun}
use Rattle.sbp_initiator.specs.Histories.Slots.{orb_in}
use Rattle.label_table.specs.declared.judgement.Asked.{Asked}
use Rattle.label_table.specs.Layer.{asking_step}
use Rattle.orb_layout.specs.ManagementOrbs.{management_bytes}
use Rattle.sbp_initiator.specs.Acting.{IsAction, act_step, manage_demand, orb_by}
use Rattle.sbp_initiator.specs.declared.state.InitiatorState.{InitiatorState}
use Rattle.sbp_initiator.specs.Effects.{Turn}
use Rattle.sbp_initiator.specs.Refusals.{operation_of}
use Rattle.sbp_initiator.specs.States.{place_of, wanted_body}
use Rattle.sbp_journal.specs.declared.event.Action.{Action}
use Rattle.sbp_journal.specs.Outgoings.{empty_outbox}
use Rattle.sbp_world.specs.Runs.{Run, after, beginning}
use Rattle.sbp_world.specs.Worlds.{initiator_at}

pub record AsksFor (action : Action) (s : InitiatorState) (turn : Turn) : Type 0 where
  pub asked : Asked
  pub made : (asking_step s.layer s.target (wanted_body (manage_demand s).wanted) (manage_demand s).purpose).0 ≡ Some asked
  pub packets_are : turn.0.packets ≡ record { to = s.target; label = Some asked.label; bytes = asked.bytes } ∷ []
  pub orb : (place_at turn.1.lists.memory (place_of s.counts.managed)).orb ≡ management_bytes (orb_by action s)

pub record AskingLaw : Type 0 where
  pub actions : (run : Run) → IsRun run → (i : ℕ) → i < run.initiators → (action : Action) → IsAction action → (let s = initiator_at (after (beginning run) run.entries).world i in is_some (orb_in (operation_of action) action s) ≡ true → (act_step action empty_outbox s).0 ≡ None → AsksFor action s (act_step action empty_outbox s).1)
