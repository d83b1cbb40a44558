-- What each call of an agent does (NCITS 325-1998, command block agents), in equations over its state.
use Rattle.std.specs.Prelude.{◌≡◌, ◌≤◌, ℕ, ◌+◌, ◌*◌, ◌==◌, ◌&&◌, ◌||◌, Bool, true, false, if◌then◌else◌, List, [], ◌++◌, length, take, drop, Option, Some, None, Result, Ok, Err}
use Rattle.orb_layout.specs.declared.ask.Ask.{Ask}
use Rattle.orb_layout.specs.declared.ask.Ask.TheVariants.{Read, Write, Nothing}
use Rattle.orb_layout.specs.declared.ask.FailCause.{FailCause}
use Rattle.orb_layout.specs.declared.ask.FailCause.TheVariants as causes
use Rattle.orb_layout.specs.declared.command.CommandOrb.{CommandOrb}
use Rattle.orb_layout.specs.declared.pointer.OrbPointer.{OrbPointer}
use Rattle.orb_layout.specs.declared.pointer.OrbPointer.TheVariants.{Null, At}
use Rattle.orb_layout.specs.declared.status.StatusBlock.{StatusBlock}
use Rattle.orb_layout.specs.declared.status.StatusKind.{StatusKind}
use Rattle.orb_layout.specs.declared.status.StatusKind.TheVariants as kinds
use Rattle.orb_layout.specs.Replies.{Answer, payload_of, write_failure}
use Rattle.orb_layout.specs.CommandOrbs.{command_orb}
use Rattle.orb_layout.specs.Pointers.{pointer_at}
use Rattle.orb_layout.specs.StatusBlocks.{status_bytes}
use Rattle.page_table.specs.declared.fault.PageFault.{PageFault}
use Rattle.page_table.specs.declared.segment.Segment.{Segment}
use Rattle.page_table.specs.Buffer.{single}
use Rattle.page_table.specs.Elements.{elements_of, first_fault}
use Rattle.rbc_disk.specs.declared.command.Need.{Need}
use Rattle.rbc_disk.specs.declared.command.Need.TheVariants as needs
use Rattle.rbc_disk.specs.declared.command.Outcome.{Outcome}
use Rattle.rbc_disk.specs.declared.command.Outcome.TheVariants as outcomes
use Rattle.rbc_disk.specs.Units.{PlainDisk}
use Rattle.rbc_disk.specs.Runs.{need_of, data_length_of, Told}
use Rattle.command_agent.specs.declared.phase.Phase.{Phase}
use Rattle.command_agent.specs.declared.phase.Phase.TheVariants as phases
use Rattle.command_agent.specs.declared.phase.ReadAhead.{ReadAhead}
use Rattle.command_agent.specs.declared.phase.ReadAhead.TheVariants as aheads
use Rattle.command_agent.specs.declared.step.AgentStep.{AgentStep}
use Rattle.command_agent.specs.declared.step.PointRefusal.{PointRefusal}
use Rattle.command_agent.specs.declared.step.PointRefusal.TheVariants as refusals
use Rattle.command_agent.specs.declared.step.Which.{Which}
use Rattle.command_agent.specs.declared.step.Which.TheVariants.{Main, Ahead}
use Rattle.command_agent.specs.declared.step.Move.{Move}
use Rattle.command_agent.specs.declared.step.Move.TheVariants as moves
use Rattle.command_agent.specs.declared.step.AgentState.{AgentState}
use Rattle.command_agent.specs.declared.step.AgentState.TheVariants as states
use Rattle.command_agent.specs.Machine.{Machine, unread, state_in, aligned, awaits_run, rung_in, is_ahead, plan_of, chunk_of}
use Rattle.command_agent.specs.Checks.{verdict, death_by, reads_table, plain_length}

-- nothing is sent and nothing told
abbrev pub quiet : AgentStep
quiet = record { ask = Nothing; ahead = Nothing; promoted = false; ran = None; ended = None; dead = None }

abbrev pub asks : Ask → AgentStep
asks ask = record quiet { ask = ask }

-- src of a status block: 1 where the next pointer is null, or was not read
abbrev pub src_of : OrbPointer → ℕ
src_of Null = 1
src_of (At offset) = 0

abbrev pub block_of : Machine → StatusKind → StatusBlock
block_of m kind = record { src = src_of m.orb.next; kind = kind; orb = m.present }

-- a dead agent has no read ahead
abbrev pub status_phase : Option FailCause → Phase
status_phase None = phases.WritingStatus
status_phase (Some cause) = phases.WritingLastStatus

abbrev pub kept_ahead : Option FailCause → ReadAhead → ReadAhead
kept_ahead None ahead = ahead
kept_ahead (Some cause) ahead = aheads.Idle

-- the present ORB ends, and its status block is written; with a cause the agent becomes dead
abbrev pub end_step : Machine → StatusKind → Option FailCause → AgentStep × Machine
end_step m kind dead = (
  record quiet { ask = Write 0 (length (status_bytes (block_of m kind))); ended = Some kind; dead = dead },
  record m { phase = status_phase dead; ahead = kept_ahead dead m.ahead; outgoing = status_bytes (block_of m kind) },
)

abbrev pub fail_step : Machine → FailCause → AgentStep × Machine
fail_step m cause = end_step m kinds.Failed (Some cause)

-- the agent becomes dead, and no ORB ends
abbrev pub dead_step : Machine → FailCause → AgentStep × Machine
dead_step m cause = (record quiet { dead = Some cause }, record m { phase = phases.Dead; ahead = aheads.Idle })

-- the turn of the ORB at a pointer
abbrev pub turned : Machine → ℕ → Machine
turned m next = record m {
  phase = phases.Fetching;
  present = aligned next;
  orb = unread;
  aborted = false;
  ahead = aheads.Idle;
  payload = [];
}

-- it is read: this clears the doorbell mark
abbrev pub fetch_step : Machine → ℕ → AgentStep × Machine
fetch_step m next = (asks (Read (aligned next) 32), record (turned m next) { doorbell = false })

-- the next pointer of the last ORB is read again: this clears the doorbell mark
abbrev pub reread_step : Machine → AgentStep × Machine
reread_step m = (asks (Read m.present 8), record m { phase = phases.ReadingNext; doorbell = false })

-- ORB_POINTER
abbrev pub pointed : Machine → OrbPointer → Result Ask PointRefusal × Machine
pointed m Null = (Err refusals.Null, m)
pointed m (At next) = (Ok (fetch_step m next).0.ask, (fetch_step m next).1)

abbrev pub point_in : AgentState → Machine → OrbPointer → Result Ask PointRefusal × Machine
point_in states.Reset m pointer = pointed m pointer
point_in states.Suspended m pointer = pointed m pointer
point_in _ m pointer = (Err refusals.Conflict, m)

unfoldable pub point_step : Machine → OrbPointer → Result Ask PointRefusal × Machine
point_step m pointer = point_in (state_in m.phase) m pointer

-- DOORBELL
abbrev pub doorbell_in : AgentState → Machine → Ask × Machine
doorbell_in states.Active m = (Nothing, record m { doorbell = true })
doorbell_in states.Suspended m = ((reread_step m).0.ask, (reread_step m).1)
doorbell_in _ m = (Nothing, m)

unfoldable pub doorbell_step : Machine → Ask × Machine
doorbell_step m = doorbell_in (state_in m.phase) m

-- AGENT_RESET: the answer tells whether the agent was in another state
abbrev pub is_reset : AgentState → Bool
is_reset states.Reset = true
is_reset _ = false

unfoldable pub reset_step : Machine → Machine
reset_step m = record m { phase = phases.Reset; ahead = aheads.Idle }

-- the function abort marks the present ORB at this address where it has neither run nor ended
unfoldable pub abort_step : Machine → ℕ → Machine
abort_step m orb = record m { aborted = m.aborted || (awaits_run m.phase && (m.present == aligned orb)) }

-- after the status write, by the next pointer as it was last read; a read ahead under way becomes the main transaction
abbrev pub sent : AgentStep × Machine → Move × Machine
sent s = (moves.Send s.0, s.1)

abbrev pub turn_step : Machine → ℕ → ReadAhead → Move × Machine
turn_step m next aheads.Idle = sent (fetch_step m next)
turn_step m next (aheads.UnderWay rung) = (moves.Send (record quiet { promoted = true }), turned m next)
turn_step m next (aheads.Kept orb) = (moves.Check, record (turned m next) { orb = orb })

abbrev pub wait_step : Machine → AgentStep × Machine
wait_step m = if m.doorbell then reread_step m else (quiet, record m { phase = phases.Suspended })

abbrev pub follow_step : Machine → OrbPointer → Move × Machine
follow_step m (At next) = turn_step m next m.ahead
follow_step m Null = sent (wait_step m)

abbrev pub status_written : Machine → Option FailCause → Move × Machine
status_written m (Some cause) = sent (dead_step m cause)
status_written m None = follow_step m m.orb.next

abbrev pub next_read : Machine → Result (List ℕ) FailCause → Move × Machine
next_read m (Err cause) = sent (dead_step m cause)
next_read m (Ok bytes) = follow_step (record m { orb = record m.orb { next = pointer_at bytes 0 } }) (pointer_at bytes 0)

-- the ORB
abbrev pub orb_read : Machine → Result (List ℕ) FailCause → Move × Machine
orb_read m (Err cause) = sent (fail_step m cause)
orb_read m (Ok bytes) = (moves.Check, record m { orb = command_orb bytes })

-- its page table
abbrev pub elements_read : Machine → List ℕ → Option PageFault → Move × Machine
elements_read m bytes (Some fault) = sent (end_step m (kinds.Illegal 0xff) (Some causes.Grammar))
elements_read m bytes None = (moves.Judge, record m { segments = elements_of bytes })

abbrev pub table_read : Machine → Result (List ℕ) FailCause → Move × Machine
table_read m (Err cause) = sent (fail_step m cause)
table_read m (Ok bytes) =
    if m.aborted then sent (end_step m kinds.Aborted None)
    else elements_read m bytes (first_fault 0 (elements_of bytes))

-- its data, chunk by chunk
abbrev pub data_step : Machine → ℕ → AgentStep × Machine
data_step m wanted = (
  asks (Read (chunk_of m (length m.payload) wanted).offset (chunk_of m (length m.payload) wanted).length),
  record m { phase = phases.ReadingData wanted },
)

abbrev pub data_grown : Machine → ℕ → Move × Machine
data_grown m wanted = if length m.payload == wanted then (moves.Run, m) else sent (data_step m wanted)

abbrev pub data_read : Machine → ℕ → Result (List ℕ) FailCause → Move × Machine
data_read m wanted (Err cause) = sent (fail_step m cause)
data_read m wanted (Ok bytes) =
    if m.aborted then sent (end_step m kinds.Aborted None)
    else data_grown (record m { payload = m.payload ++ bytes }) wanted

-- its answer, chunk by chunk
abbrev pub answer_chunk : Machine → ℕ
answer_chunk m = (chunk_of m m.written (length m.answer)).length

abbrev pub answer_step : Machine → AgentStep × Machine
answer_step m = (
  asks (Write (chunk_of m m.written (length m.answer)).offset (answer_chunk m)),
  record m { phase = phases.Answering; outgoing = take (answer_chunk m) (drop m.written m.answer) },
)

abbrev pub answer_grown : Machine → Move × Machine
answer_grown m = sent (if m.written == length m.answer then end_step m kinds.Good None else answer_step m)

abbrev pub chunk_written : Machine → Option FailCause → Move × Machine
chunk_written m (Some cause) = sent (fail_step m cause)
chunk_written m None = answer_grown (record m { written = m.written + answer_chunk m })

-- the reply to the main transaction, by phase
abbrev pub advanced : Phase → Machine → Answer → Move × Machine
advanced phases.Fetching m answer = orb_read m (payload_of answer 32)
advanced phases.ReadingTable m answer = table_read m (payload_of answer (8 * m.orb.data_size))
advanced (phases.ReadingData wanted) m answer = data_read m wanted (payload_of answer (chunk_of m (length m.payload) wanted).length)
advanced phases.Answering m answer = chunk_written m (write_failure answer)
advanced phases.WritingStatus m answer = status_written m (write_failure answer)
advanced phases.ReadingNext m answer = next_read m (payload_of answer 8)
advanced phases.WritingLastStatus m answer = (moves.Send quiet, record m { phase = phases.Dead })
advanced _ m answer = (moves.Send quiet, m)

abbrev pub with_outcome : Outcome → AgentStep × Machine → AgentStep × Machine
with_outcome outcome s = (record s.0 { ran = Some outcome }, s.1)

-- the command runs
abbrev pub ran_as : Machine → Outcome → AgentStep × Machine
ran_as m (outcomes.Check sense) = end_step m (kinds.Check sense) None
ran_as m (outcomes.Good len) = if len == 0 then end_step m kinds.Good None else answer_step m

abbrev pub run_step : Machine → Told → AgentStep × Machine
run_step m told = with_outcome told.outcome (ran_as (record m { answer = told.answer; written = 0 }) told.outcome)

-- the command is judged: it reads its data or runs at once
abbrev pub judged : Machine → Told → Need → AgentStep × Machine
judged m told needs.RunNow = run_step m told
judged m told (needs.Payload len) = data_step m len

abbrev pub judge_step : Machine → ℕ → PlainDisk → Told → AgentStep × Machine
judge_step m place plain told = judged m told (need_of m.orb.cdb (plan_of m) plain place)

-- the buffer of an ORB whose page table is not read
abbrev pub unread_buffer : CommandOrb → List Segment
unread_buffer orb = single orb.descriptor (plain_length orb)

-- the first request of an ORB whose bytes are there
abbrev pub passed_step : Machine → ℕ → PlainDisk → Told → AgentStep × Machine
passed_step m place plain told =
    if reads_table m.orb
    then (asks (Read m.orb.descriptor (8 * m.orb.data_size)), record m { phase = phases.ReadingTable })
    else judge_step (record m { segments = unread_buffer m.orb }) place plain told

abbrev pub checked : Machine → ℕ → PlainDisk → Told → Option StatusKind → AgentStep × Machine
checked m place plain told (Some kind) = end_step m kind (death_by kind)
checked m place plain told None = passed_step m place plain told

abbrev pub check_step : Machine → ℕ → PlainDisk → Told → AgentStep × Machine
check_step m place plain told = checked m place plain told (verdict m.orb m.aborted)

-- behind it the read ahead of the next ORB: this clears the doorbell mark
abbrev pub ahead_of : Option FailCause → OrbPointer → AgentStep × Machine → AgentStep × Machine
ahead_of None (At next) s = (record s.0 { ahead = Read (aligned next) 32 }, record s.1 { ahead = aheads.UnderWay s.1.doorbell; doorbell = false })
ahead_of _ _ s = s

abbrev pub with_ahead : AgentStep × Machine → AgentStep × Machine
with_ahead s = ahead_of s.0.dead s.1.orb.next s

abbrev pub served : ℕ → PlainDisk → Told → Move → Machine → AgentStep × Machine
served place plain told (moves.Send step) m = (step, m)
served place plain told moves.Check m = with_ahead (check_step m place plain told)
served place plain told moves.Judge m = judge_step m place plain told
served place plain told moves.Run m = run_step m told

abbrev pub is_label : FailCause → Bool
is_label causes.Label = true
is_label _ = false

-- The read ahead failed: it is forgotten, and one that was not sent has cleared no doorbell mark.
abbrev pub ahead_lost : Machine → FailCause → AgentStep × Machine
ahead_lost m cause = (quiet, record m { ahead = aheads.Idle; doorbell = m.doorbell || (is_label cause && rung_in m.ahead) })

-- the reply to the read ahead: its bytes are kept unchecked, or it is forgotten
abbrev pub ahead_read : Machine → Result (List ℕ) FailCause → AgentStep × Machine
ahead_read m (Ok bytes) = (quiet, record m { ahead = aheads.Kept (command_orb bytes) })
ahead_read m (Err cause) = ahead_lost m cause

abbrev pub ahead_step : Machine → Answer → AgentStep × Machine
ahead_step m answer = ahead_read m (payload_of answer 32)

abbrev pub replied : Machine → ℕ → PlainDisk → Told → Which → Answer → AgentStep × Machine
replied m place plain told Main answer = served place plain told (advanced m.phase m answer).0 (advanced m.phase m answer).1
replied m place plain told Ahead answer = if is_ahead m.ahead then ahead_step m answer else (quiet, m)

-- where no command runs, what a run told is of no account
abbrev pub told_or : Option Told → Told
told_or None = record { outcome = outcomes.Good 0; answer = [] }
told_or (Some told) = told

-- a reply, over what the unit and its medium hold and what a run told
unfoldable pub reply_step : Machine → ℕ → PlainDisk → Option Told → Which → Answer → AgentStep × Machine
reply_step m place plain told which answer = replied m place plain (told_or told) which answer

-- The main transaction failed: the present ORB ends as failed, but where it has ended, and the agent is dead.
abbrev pub main_lost : Phase → Machine → FailCause → AgentStep × Machine
main_lost phases.Fetching m cause = fail_step m cause
main_lost phases.ReadingTable m cause = fail_step m cause
main_lost (phases.ReadingData wanted) m cause = fail_step m cause
main_lost phases.Answering m cause = fail_step m cause
main_lost phases.WritingStatus m cause = dead_step m cause
main_lost phases.ReadingNext m cause = dead_step m cause
main_lost phases.WritingLastStatus m cause = (quiet, record m { phase = phases.Dead })
main_lost _ m cause = (quiet, m)

abbrev pub lost : Machine → Which → FailCause → AgentStep × Machine
lost m Main cause = main_lost m.phase m cause
lost m Ahead cause = if is_ahead m.ahead then ahead_lost m cause else (quiet, m)

-- a transaction failed
unfoldable pub lost_step : Machine → Which → FailCause → AgentStep × Machine
lost_step m which cause = lost m which cause

-- what is known of the present ORB where its command is to be judged, or runs
pub record IsJudgeable (m : Machine) : Type 0 where
  pub limit : m.orb.max_payload ≤ 9
  pub fresh : m.payload ≡ []

pub record IsFed (m : Machine) : Type 0 where
  pub limit : m.orb.max_payload ≤ 9
  pub whole : length m.payload ≡ data_length_of false m.orb.cdb

abbrev pub IsReady : Move → Machine → Type 0
IsReady (moves.Send step) m = step.ran ≡ None
IsReady moves.Check m = m.phase ≡ phases.Fetching
IsReady moves.Judge m = IsJudgeable m
IsReady moves.Run m = IsFed m
