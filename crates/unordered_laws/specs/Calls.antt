-- Lists of the calls of an agent of the unordered unit, the latest first, and the fetch rule over them.
use Rattle.std.specs.Prelude.{ℕ, if◌then◌else◌, List, [], ◌∷◌, Option}
use Rattle.orb_layout.specs.declared.pointer.OrbPointer.{OrbPointer}
use Rattle.orb_layout.specs.Replies.{Answer}
use Rattle.rbc_disk.specs.Units.{PlainDisk}
use Rattle.rbc_disk.specs.Runs.{Told}
use Rattle.unordered_agent.specs.declared.step.TaskStep.{TaskStep}
use Rattle.unordered_agent.specs.Machine.{TaskMachine, new_agent, is_busy, FetchRule}
use Rattle.unordered_agent.specs.Steps.{quiet, point_step, doorbell_step, reset_all_step, reply_step}

-- a call; a reply with what the unit and its medium hold, and what a run tells where there is one
pub data Call : Type 0 where
  Point : (pointer : OrbPointer) → Call
  Doorbell : Call
  Reset : Call
  Reply : (login : ℕ) (plain : PlainDisk) (told : Option Told) (place : ℕ) (answer : Answer) → Call

-- a reply where no transaction is under way counts for nothing
abbrev pub replied : ℕ → PlainDisk → Option Told → ℕ → Answer → TaskMachine → TaskStep × TaskMachine
replied login plain told place answer s = if is_busy place s then reply_step s login plain told place answer else (quiet, s)

abbrev pub after_call : Call → TaskMachine → TaskMachine
after_call (Point pointer) s = (point_step s pointer).1
after_call Doorbell s = (doorbell_step s).1
after_call Reset s = reset_all_step s
after_call (Reply login plain told place answer) s = (replied login plain told place answer s).1

abbrev pub after_calls : List Call → TaskMachine
after_calls [] = new_agent
after_calls (call ∷ calls) = after_call call (after_calls calls)

-- The fetch rule holds after every list of calls.
abbrev pub FetchRuleLaw : Type 0
FetchRuleLaw = (calls : List Call) → FetchRule (after_calls calls).fetcher.phase (after_calls calls).fetcher (after_calls calls).tasks
