-- What a reply tells and leaves of the unit and its medium: where a command ran, what the unit's run does (RBC); else nothing.
use Rattle.std.specs.Prelude.{◌≡◌, ℕ, length, IfSome, Option, Some, None}
use Rattle.rbc_disk.specs.declared.command.Outcome.{Outcome}
use Rattle.rbc_disk.specs.Units.{PlainDisk}
use Rattle.rbc_disk.specs.Checks.{check_of}
use Rattle.rbc_disk.specs.Runs.{need_of, Feeds, MayEnd, failure_of, check_in, count_after_run, answered_length, answer_length_of, answer_of}
use Rattle.command_agent.specs.Machine.{Machine, plan_of}

-- The present ORB's command may have run on the unit and its medium as they stood, as `HasRun` of rbc_disk says: with all of its data, with this outcome and with the answer that the agent then has.
pub record MayRun (m : Machine) (place : ℕ) (outcome : Outcome) (plain : PlainDisk) : Type 0 where
  pub fed : Feeds (need_of m.orb.cdb (plan_of m) plain place) m.payload
  pub ended : MayEnd (check_of m.orb.cdb (plan_of m) plain place) (failure_of plain.medium.is_bay m.orb.cdb) (check_in outcome)
  pub size : length m.answer ≡ answered_length outcome
  pub len : check_in outcome ≡ None → answered_length outcome ≡ answer_length_of plain.medium.is_bay m.orb.cdb
  pub answered : check_in outcome ≡ None → IfSome (answer_of m.orb.cdb plain.medium) (λ told. m.answer ≡ told)

-- what a step may tell
abbrev pub MayTell : Option Outcome → Machine → ℕ → PlainDisk → Type 0
MayTell None m place plain = Unit {0}
MayTell (Some outcome) m place plain = MayRun m place outcome plain

-- the medium's count of faults behind a step: one more where a command ran and a medium call failed
abbrev pub count_after : Option Outcome → ℕ → ℕ
count_after None before = before
count_after (Some outcome) before = count_after_run (check_in outcome) before
