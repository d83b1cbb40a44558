-- Which refusal an action of a run has (NCITS 325-1998, lists of ORBs and task management): that with the least number whose row holds of the run
-- terms. This is so of the steps of a list that send nothing and begin no ORB; and of each other action but logins, queries, rings and
-- those that prepare an ORB or end a list, where its request finds a label exactly as the run says.
use Rattle.std.specs.Prelude.{◌≡◌, ◌<◌, ℕ, ◌&&◌, not, Bool, true, false}
use Rattle.sbp_journal.specs.Outgoings.{OutboxState}
use Rattle.sbp_journal.specs.declared.event.Action.{Action}
use Rattle.sbp_journal.specs.declared.event.Action.TheVariants as actions
use Rattle.sbp_initiator.specs.Acting.{act_step}
use Rattle.sbp_initiator.specs.Refusals.{sends}
use Rattle.sbp_initiator.specs.Refusing.{finds_label}
use Rattle.sbp_laws.specs.Actions.{refusal_at, refusals}
use Rattle.sbp_laws.specs.Hosts.{host_at}
use Rattle.sbp_world.specs.Histories.{history_of}
use Rattle.sbp_world.specs.Runs.{Run}
use Rattle.sbp_world.specs.Hosts.Refusing.{initiator_of}
use Rattle.sbp_world.specs.Hosts.Runs.{IsRun}

-- the actions whose first nine rows read neither the ROM, nor an ORB_POINTER write, nor whether the list is dead
abbrev pub is_decided : Action → Bool
is_decided actions.Rom = true
is_decided actions.Reconnect = true
is_decided (actions.Abort orb) = true
is_decided actions.State = true
is_decided actions.Enable = true
is_decided actions.Low = true
is_decided actions.Link = true
is_decided (actions.Dummy orb) = true
is_decided _ = false

pub record RunRefusalLaw : Type 0 where
  pub decided : (line : ℕ) (run : Run) → IsRun run → (i : ℕ) → i < run.initiators → (action : Action) (o : OutboxState) → is_decided action ≡ true → (refusals (history_of line run) i action (host_at (history_of line run) i)).no_label ≡ (sends action && not (finds_label action (initiator_of run i))) → refusal_at (history_of line run) i action ≡ (act_step action o (initiator_of run i)).0
  pub silent : (line : ℕ) (run : Run) → IsRun run → (i : ℕ) → i < run.initiators → (action : Action) (o : OutboxState) → is_decided action ≡ true → sends action ≡ false → refusal_at (history_of line run) i action ≡ (act_step action o (initiator_of run i)).0
