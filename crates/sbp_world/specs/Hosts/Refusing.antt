-- What the actions of every run tell and why they are refused, by the run terms (NCITS 325-1998, lists of ORBs): behind every line of a run, the
-- rows of a refusal that read the links, the ORBs and the slots of an initiator are those of the run, for each action; and an action that is
-- done tells the notes that the run asks for.
use Rattle.std.specs.Prelude.{◌≡◌, ◌<◌, ℕ, Bool, ◌++◌, None}
use Rattle.sbp_journal.specs.Outgoings.{OutboxState}
use Rattle.sbp_journal.specs.declared.event.Action.{Action}
use Rattle.sbp_initiator.specs.declared.state.InitiatorState.{InitiatorState}
use Rattle.sbp_initiator.specs.Acting.{act_step, facts_with}
use Rattle.sbp_initiator.specs.Refusals.{rows_of}
use Rattle.sbp_laws.specs.Actions.{action_notes, refusals}
use Rattle.sbp_laws.specs.Hosts.{Host}
use Rattle.sbp_world.specs.Histories.{history_of}
use Rattle.sbp_world.specs.Runs.{Run, after, beginning}
use Rattle.sbp_world.specs.Worlds.{initiator_at}
use Rattle.sbp_initiator.specs.Histories.Ends.{own}
use Rattle.sbp_world.specs.Hosts.Acting.{HasRows}
use Rattle.sbp_world.specs.Hosts.Runs.{IsRun}

-- an initiator of a run, behind its last line
abbrev pub initiator_of : Run → ℕ → InitiatorState
initiator_of run i = initiator_at (after (beginning run) run.entries).world i

pub record RunActionLaw : Type 0 where
  pub rows : (line : ℕ) (run : Run) → IsRun run → (i : ℕ) → i < run.initiators → (action : Action) (host : Host) (has_label : Bool) → HasRows (refusals (history_of line run) i action host) (rows_of action (facts_with has_label (initiator_of run i) action))
  pub notes : (line : ℕ) (run : Run) → IsRun run → (i : ℕ) → i < run.initiators → (action : Action) (o : OutboxState) → (act_step action o (initiator_of run i)).0 ≡ None → (act_step action o (initiator_of run i)).1.0.sides ≡ o.sides ++ own (action_notes action (history_of line run) i)
