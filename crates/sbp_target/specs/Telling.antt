-- What the target tells beside its packets of a step of an agent.
use Rattle.std.specs.Prelude.{ℕ, Option, Some, None}
use Rattle.orb_layout.specs.declared.ask.FailCause.{FailCause}
use Rattle.orb_layout.specs.declared.status.StatusKind.{StatusKind}
use Rattle.rbc_disk.specs.declared.command.Outcome.{Outcome}
use Rattle.command_agent.specs.declared.step.AgentStep.{AgentStep}
use Rattle.command_agent.specs.Machine.{Machine, present_of}
use Rattle.sbp_journal.specs.declared.side.Side.TheVariants as sides
use Rattle.sbp_journal.specs.Outgoings.{OutboxState}
use Rattle.sbp_target.specs.Sending.{with_side}

abbrev pub or_zero : Option ℕ → ℕ
or_zero None = 0
or_zero (Some orb) = orb

-- the address of the present ORB
abbrev pub orb_of : Machine → ℕ
orb_of m = or_zero (present_of m)

abbrev pub tell_ran : ℕ → Machine → Option Outcome → OutboxState → OutboxState
tell_ran place m None outbox = outbox
tell_ran place m (Some outcome) outbox = with_side outbox (sides.Ran place (orb_of m) m.orb.cdb m.payload outcome)

abbrev pub tell_dead : ℕ → Option FailCause → OutboxState → OutboxState
tell_dead place None outbox = outbox
tell_dead place (Some cause) outbox = with_side outbox (sides.Dead place cause)

abbrev pub tell_ended : ℕ → Machine → Option StatusKind → OutboxState → OutboxState
tell_ended place m None outbox = outbox
tell_ended place m (Some status) outbox = with_side outbox (sides.Ended place (orb_of m) status)

-- A command ran, before its ORB ended; an agent became dead, directly before the end that this brings.
unfoldable pub tell_step : ℕ → Machine → AgentStep → OutboxState → OutboxState
tell_step place m step outbox = tell_ended place m step.ended (tell_dead place step.dead (tell_ran place m step.ran outbox))
