-- What the target tells beside its packets of a step of its agent, whose login has place 0.
use Rattle.std.specs.Prelude.{ℕ, Option, Some, None}
use Rattle.orb_layout.specs.declared.ask.FailCause.{FailCause}
use Rattle.orb_layout.specs.declared.status.StatusKind.{StatusKind}
use Rattle.rbc_disk.specs.declared.command.Outcome.{Outcome}
use Rattle.command_agent.specs.Machine.{present_of}
use Rattle.sbp_journal.specs.declared.side.Side.TheVariants as sides
use Rattle.sbp_journal.specs.Outgoings.{OutboxState}
use Rattle.unordered_agent.specs.declared.step.TaskStep.{TaskStep}
use Rattle.unordered_agent.specs.Machine.{TaskMachine, task_at}
use Rattle.task_target.specs.Sending.{with_side}

abbrev pub or_zero : Option ℕ → ℕ
or_zero None = 0
or_zero (Some orb) = orb

-- the address of the ORB in a task place
abbrev pub orb_at : TaskMachine → ℕ → ℕ
orb_at m place = or_zero (present_of (task_at m place))

-- the command of the ORB in this place, where there is one, ran
abbrev pub tell_ran : Option ℕ → TaskMachine → Option Outcome → OutboxState → OutboxState
tell_ran (Some place) m (Some outcome) outbox =
    with_side outbox (sides.Ran 0 (orb_at m place) (task_at m place).orb.cdb (task_at m place).payload outcome)
tell_ran (Some place) m None outbox = outbox
tell_ran None m ran outbox = outbox

abbrev pub tell_dead : Option FailCause → OutboxState → OutboxState
tell_dead None outbox = outbox
tell_dead (Some cause) outbox = with_side outbox (sides.Dead 0 cause)

-- the ORB in this place, where there is one, ended
abbrev pub tell_ended : Option ℕ → TaskMachine → Option StatusKind → OutboxState → OutboxState
tell_ended (Some place) m (Some status) outbox = with_side outbox (sides.Ended 0 (orb_at m place) status)
tell_ended (Some place) m None outbox = outbox
tell_ended None m ended outbox = outbox

-- Of a step that is about the ORB in this place: its command ran; the agent became dead, directly before the end that this brings; the ORB ended.
unfoldable pub tell_step : Option ℕ → TaskMachine → TaskStep → OutboxState → OutboxState
tell_step place m step outbox = tell_ended place m step.ended (tell_dead step.dead (tell_ran place m step.ran outbox))
