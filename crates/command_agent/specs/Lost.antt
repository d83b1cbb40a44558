-- A failed transaction runs no command.
use Rattle.std.specs.Prelude.{◌≡◌, ℕ, false, Option, Some, None, Err}
use Rattle.orb_layout.specs.declared.ask.FailCause.{FailCause}
use Rattle.orb_layout.specs.declared.ask.FailCause.TheVariants as causes
use Rattle.orb_layout.specs.Replies.{Answer, Refused, Expired, NoLabel, payload_of}
use Rattle.rbc_disk.specs.Units.{PlainDisk}
use Rattle.rbc_disk.specs.Runs.{Told}
use Rattle.command_agent.specs.declared.phase.Phase.TheVariants as phases
use Rattle.command_agent.specs.declared.step.Which.{Which}
use Rattle.command_agent.specs.declared.step.Which.TheVariants.{Main}
use Rattle.command_agent.specs.Machine.{Machine, is_under_way}
use Rattle.command_agent.specs.Steps.{quiet, reply_step, lost_step}

-- why a request failed that had no answer, or one with another rcode than complete
abbrev pub failed : Answer → Option FailCause
failed (Refused rcode) = Some causes.Refused
failed Expired = Some causes.Timeout
failed NoLabel = Some causes.Label
failed _ = None

-- A reply that fails is a loss, whatever the unit, its medium and a run would tell.
abbrev pub LostLaw : Type 0
LostLaw = (m : Machine) (place : ℕ) (plain : PlainDisk) (told : Option Told) (which : Which) (answer : Answer) (cause : FailCause) →
    failed answer ≡ Some cause → reply_step m place plain told which answer ≡ lost_step m which cause

-- No step of it tells a run.
abbrev pub LossesRunNothing : Type 0
LossesRunNothing = (m : Machine) (which : Which) (cause : FailCause) → (lost_step m which cause).0.ran ≡ None

-- Two main transactions lost in turn leave none under way: where neither the request of a step nor the status write that follows finds a label, nothing is left to be lost.
abbrev pub TwoLossesEndIt : Type 0
TwoLossesEndIt = (m : Machine) (first second : FailCause) → is_under_way Main (lost_step (lost_step m Main first).1 Main second).1 ≡ false

-- A failing read of a next pointer makes the agent dead; no ORB ends, none runs and nothing is written.
abbrev pub RereadsEndNothing : Type 0
RereadsEndNothing = (m : Machine) (place : ℕ) (plain : PlainDisk) (told : Option Told) (answer : Answer) (cause : FailCause) →
    payload_of answer 8 ≡ Err cause →
    (reply_step (record m { phase = phases.ReadingNext }) place plain told Main answer).0 ≡ record quiet { dead = Some cause }
