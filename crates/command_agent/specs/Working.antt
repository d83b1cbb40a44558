-- From the turn of an ORB until its end an agent is at work (NCITS 325-1998, ordered execution).
use Rattle.std.specs.Prelude.{◌≡◌, ℕ, ◌||◌, is_some, Bool, true, false, Option}
use Rattle.orb_layout.specs.declared.ask.FailCause.{FailCause}
use Rattle.orb_layout.specs.declared.pointer.OrbPointer.{OrbPointer}
use Rattle.orb_layout.specs.declared.pointer.OrbPointer.TheVariants.{Null, At}
use Rattle.orb_layout.specs.Replies.{Answer}
use Rattle.rbc_disk.specs.Units.{PlainDisk}
use Rattle.rbc_disk.specs.Runs.{Told}
use Rattle.command_agent.specs.declared.step.AgentStep.{AgentStep}
use Rattle.command_agent.specs.declared.step.Which.{Which}
use Rattle.command_agent.specs.declared.step.Which.TheVariants.{Main, Ahead}
use Rattle.command_agent.specs.Machine.{Machine}
use Rattle.command_agent.specs.Steps.{reply_step, lost_step}
use Rattle.command_agent.specs.Making.{is_at_work, followed}

abbrev pub is_next : OrbPointer → Bool
is_next Null = false
is_next (At next) = true

-- An agent of which an ORB ends in a step is not at work behind it. One that has an ORB to work is at work behind it, or an ORB ended.
pub record GoesOn (has_orb : Bool) (s : AgentStep × Machine) : Type 0 where
  pub over : is_some s.0.ended ≡ true → is_at_work s.1.phase ≡ false
  pub goes : has_orb ≡ true → (is_at_work s.1.phase || is_some s.0.ended) ≡ true

-- The reply to a main transaction finds the present ORB, or has the turn of the one that the next pointer names.
abbrev pub RepliesGoOn : Type 0
RepliesGoOn = (m : Machine) (place : ℕ) (plain : PlainDisk) (told : Option Told) (answer : Answer) →
    GoesOn (is_at_work m.phase || is_next (followed m.phase m answer)) (reply_step m place plain told Main answer)

-- A step that begins no ORB: it goes on with the present one.
pub record BeginsNone (m : Machine) (s : AgentStep × Machine) : Type 0 where
  pub on : GoesOn (is_at_work m.phase) s
  pub old : is_at_work s.1.phase ≡ true → is_at_work m.phase ≡ true

-- The reply to a read ahead begins none, and neither does a transaction that fails.
abbrev pub AheadsBeginNone : Type 0
AheadsBeginNone = (m : Machine) (place : ℕ) (plain : PlainDisk) (told : Option Told) (answer : Answer) → BeginsNone m (reply_step m place plain told Ahead answer)

abbrev pub LossesBeginNone : Type 0
LossesBeginNone = (m : Machine) (which : Which) (cause : FailCause) → BeginsNone m (lost_step m which cause)
