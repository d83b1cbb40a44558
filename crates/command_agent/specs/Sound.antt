-- What always holds of an agent, by its phase, holds behind each of its calls (NCITS 325-1998, command block agents).
use Rattle.std.specs.Prelude.{ℕ, Option}
use Rattle.orb_layout.specs.declared.ask.FailCause.{FailCause}
use Rattle.orb_layout.specs.declared.pointer.OrbPointer.{OrbPointer}
use Rattle.orb_layout.specs.Replies.{Answer}
use Rattle.rbc_disk.specs.Units.{PlainDisk}
use Rattle.rbc_disk.specs.Runs.{Told}
use Rattle.command_agent.specs.declared.step.Which.{Which}
use Rattle.command_agent.specs.Machine.{Machine, IsSound}
use Rattle.command_agent.specs.Steps.{reply_step, lost_step, point_step, doorbell_step, reset_step, abort_step}
use Rattle.command_agent.specs.Making.{MayTellSo}

-- of a reply where what a run told is what a run of that command may tell, and of each other call
pub record KeepsSound (m : Machine) : Type 0 where
  pub replies : (place : ℕ) (plain : PlainDisk) (told : Option Told) (which : Which) (answer : Answer) → MayTellSo (reply_step m place plain told which answer) place plain → IsSound (reply_step m place plain told which answer).1
  pub losses : (which : Which) (cause : FailCause) → IsSound (lost_step m which cause).1
  pub pointers : (pointer : OrbPointer) → IsSound (point_step m pointer).1
  pub doorbells : IsSound (doorbell_step m).1
  pub resets : IsSound (reset_step m)
  pub aborts : (orb : ℕ) → IsSound (abort_step m orb)

abbrev pub CallsKeepSound : Type 0
CallsKeepSound = (m : Machine) → IsSound m → KeepsSound m
