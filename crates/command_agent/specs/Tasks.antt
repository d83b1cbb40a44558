-- An agent with one ORB alone, as a task of the unordered unit: another reads the ORB, and its next pointer again; nothing is read ahead.
use Rattle.std.specs.Prelude.{ℕ, Bool, true, false, List, Option, Result, Ok, Err}
use Rattle.orb_layout.specs.declared.ask.FailCause.{FailCause}
use Rattle.orb_layout.specs.declared.pointer.OrbPointer.{OrbPointer}
use Rattle.orb_layout.specs.Replies.{Answer, payload_of}
use Rattle.orb_layout.specs.CommandOrbs.{command_orb}
use Rattle.rbc_disk.specs.Units.{PlainDisk}
use Rattle.rbc_disk.specs.Runs.{Told}
use Rattle.command_agent.specs.declared.phase.Phase.{Phase}
use Rattle.command_agent.specs.declared.phase.Phase.TheVariants as phases
use Rattle.command_agent.specs.declared.step.AgentStep.{AgentStep}
use Rattle.command_agent.specs.Machine.{Machine}
use Rattle.command_agent.specs.Steps.{turned, fail_step, check_step, told_or}

-- its bytes are checked, or their read failed
abbrev pub begun : Machine → ℕ → PlainDisk → Told → Result (List ℕ) FailCause → AgentStep × Machine
begun m place plain told (Ok bytes) = check_step (record m { orb = command_orb bytes }) place plain told
begun m place plain told (Err cause) = fail_step m cause

-- the ORB at an address is begun, by what came of its read
unfoldable pub begin_step : Machine → ℕ → PlainDisk → Option Told → ℕ → Answer → AgentStep × Machine
begin_step m place plain told orb answer = begun (turned m orb) place plain (told_or told) (payload_of answer 32)

-- its next pointer was read again
abbrev pub relinked : Machine → OrbPointer → Machine
relinked m next = record m { orb = record m.orb { next = next } }

-- its status block is being written
abbrev pub writes_status : Phase → Bool
writes_status phases.WritingStatus = true
writes_status phases.WritingLastStatus = true
writes_status _ = false
