-- Two agents that differ in nothing that their phase reads any more (NCITS 325-1998, command block agents). What a list has read is written
-- anew by the next one: in RESET and DEAD nothing counts but the phase and whether a read ahead is under way; the segments of the buffer count while data moves, the
-- answer while it is written, and the bytes of a status block while that is written. Where a medium does not tell its bytes, the two may have
-- other bytes for an answer, and as many.
use Rattle.std.specs.Prelude.{◌≡◌, ℕ, Bool, true, false, if◌then◌else◌, is_some, length, Option}
use Rattle.orb_layout.specs.declared.ask.FailCause.{FailCause}
use Rattle.orb_layout.specs.declared.pointer.OrbPointer.{OrbPointer}
use Rattle.orb_layout.specs.Replies.{Answer}
use Rattle.rbc_disk.specs.Runs.{Told}
use Rattle.rbc_disk.specs.Units.{PlainDisk}
use Rattle.command_agent.specs.declared.phase.Phase.{Phase}
use Rattle.command_agent.specs.declared.phase.Phase.TheVariants as phases
use Rattle.command_agent.specs.declared.step.AgentStep.{AgentStep}
use Rattle.command_agent.specs.declared.step.Which.{Which}
use Rattle.command_agent.specs.Machine.{Machine, is_ahead}
use Rattle.command_agent.specs.Steps.{abort_step, doorbell_step, lost_step, point_step, reply_step, reset_step, told_or}
use Rattle.command_agent.specs.Tasks.{writes_status}

-- a list is open
abbrev pub has_list : Phase → Bool
has_list phases.Reset = false
has_list phases.Dead = false
has_list _ = true

-- data moves from or to the buffer
abbrev pub moves_data : Phase → Bool
moves_data (phases.ReadingData wanted) = true
moves_data phases.Answering = true
moves_data _ = false

abbrev pub answers : Phase → Bool
answers phases.Answering = true
answers _ = false

pub record Alike (untold : Bool) (a m : Machine) : Type 0 where
  pub phase : a.phase ≡ m.phase
  pub flag : is_ahead a.ahead ≡ is_ahead m.ahead
  pub ahead : has_list m.phase ≡ true → a.ahead ≡ m.ahead
  pub doorbell : has_list m.phase ≡ true → a.doorbell ≡ m.doorbell
  pub present : has_list m.phase ≡ true → a.present ≡ m.present
  pub orb : has_list m.phase ≡ true → a.orb ≡ m.orb
  pub aborted : has_list m.phase ≡ true → a.aborted ≡ m.aborted
  pub payload : has_list m.phase ≡ true → a.payload ≡ m.payload
  pub segments : moves_data m.phase ≡ true → a.segments ≡ m.segments
  pub written : answers m.phase ≡ true → a.written ≡ m.written
  pub size : answers m.phase ≡ true → length a.answer ≡ length m.answer
  pub answer : answers m.phase ≡ true → untold ≡ false → a.answer ≡ m.answer
  pub chunk : answers m.phase ≡ true → untold ≡ false → a.outgoing ≡ m.outgoing
  pub status : writes_status m.phase ≡ true → a.outgoing ≡ m.outgoing

-- what a run told of its outcome and of the length of its answer, and of its bytes where they are told
pub record TellsAlike (untold : Bool) (a m : Told) : Type 0 where
  pub outcome : a.outcome ≡ m.outcome
  pub size : length a.answer ≡ length m.answer
  pub answer : untold ≡ false → a.answer ≡ m.answer

-- Two steps are one, and leave agents that are alike: where a command ran, by what was told of it.
pub record StepsAlike (before of_run : Bool) (p q : AgentStep × Machine) : Type 0 where
  pub step : p.0 ≡ q.0
  pub alike : Alike (if is_some q.0.ran then of_run else before) p.1 q.1

-- The calls of two such agents have one answer, and leave such agents.
pub record AlikeLaw : Type 0 where
  pub replies : (untold of_run : Bool) (a m : Machine) (place : ℕ) (plain : PlainDisk) (told_a told_m : Option Told) (which : Which) (answer : Answer) → Alike untold a m → TellsAlike of_run (told_or told_a) (told_or told_m) → StepsAlike untold of_run (reply_step a place plain told_a which answer) (reply_step m place plain told_m which answer)
  pub losses : (untold of_run : Bool) (a m : Machine) (which : Which) (cause : FailCause) → Alike untold a m → StepsAlike untold of_run (lost_step a which cause) (lost_step m which cause)
  pub pointers : (untold : Bool) (a m : Machine) (pointer : OrbPointer) → Alike untold a m → ((point_step a pointer).0 ≡ (point_step m pointer).0) × Alike untold (point_step a pointer).1 (point_step m pointer).1
  pub doorbells : (untold : Bool) (a m : Machine) → Alike untold a m → ((doorbell_step a).0 ≡ (doorbell_step m).0) × Alike untold (doorbell_step a).1 (doorbell_step m).1
  pub resets : (untold : Bool) (a m : Machine) → Alike untold a m → Alike untold (reset_step a) (reset_step m)
  pub aborts : (untold : Bool) (a m : Machine) (orb : ℕ) → Alike untold a m → Alike untold (abort_step a orb) (abort_step m orb)
