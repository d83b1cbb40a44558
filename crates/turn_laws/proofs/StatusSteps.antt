-- A step that ends an ORB asks for the write of its status, with the bytes of that end; it is the last write of an agent that the step makes DEAD, and of no other.
use Rattle.std.proofs.Common.{◌≡◌, refl, ℕ, ◌+◌, ◌*◌, ◌==◌, Bool, true, false, cond, List, ◌++◌, length, Option, Some, None, Result, Ok, Err}
use Rattle.orb_layout.specs.declared.ask.Ask.TheVariants.{Read, Write}
use Rattle.orb_layout.specs.declared.ask.FailCause.{FailCause}
use Rattle.orb_layout.specs.declared.pointer.OrbPointer.{OrbPointer}
use Rattle.orb_layout.specs.declared.pointer.OrbPointer.TheVariants as pointers
use Rattle.orb_layout.specs.declared.status.StatusKind.{StatusKind}
use Rattle.orb_layout.specs.declared.status.StatusKind.TheVariants as kinds
use Rattle.orb_layout.specs.Pointers.{pointer_at}
use Rattle.orb_layout.specs.Replies.{Answer, payload_of, write_failure}
use Rattle.orb_layout.specs.StatusBlocks.{status_bytes}
use Rattle.page_table.specs.declared.fault.PageFault.{PageFault}
use Rattle.page_table.specs.Elements.{elements_of, first_fault}
use Rattle.rbc_disk.specs.declared.command.Need.{Need}
use Rattle.rbc_disk.specs.declared.command.Need.TheVariants as needs
use Rattle.rbc_disk.specs.declared.command.Outcome.{Outcome}
use Rattle.rbc_disk.specs.declared.command.Outcome.TheVariants as outcomes
use Rattle.rbc_disk.specs.Runs.{Told, need_of}
use Rattle.rbc_disk.specs.Units.{PlainDisk}
use Rattle.command_agent.specs.Checks.{death_by, reads_table, verdict}
use Rattle.command_agent.specs.Machine.{Machine, chunk_of, is_ahead, plan_of}
use Rattle.command_agent.specs.Steps.{advanced, ahead_of, ahead_read, ahead_step, answer_chunk, answer_step, asks, block_of, check_step, checked, chunk_written, data_grown, data_read, data_step, elements_read, end_step, follow_step, judge_step, judged, next_read, orb_read, quiet, ran_as, reply_step, reread_step, run_step, sent, served, status_phase, status_written, table_read, told_or, turn_step, unread_buffer, wait_step}
use Rattle.command_agent.specs.declared.phase.Phase.{Phase}
use Rattle.command_agent.specs.declared.phase.Phase.TheVariants as phases
use Rattle.command_agent.specs.declared.phase.ReadAhead.{ReadAhead}
use Rattle.command_agent.specs.declared.phase.ReadAhead.TheVariants as aheads
use Rattle.command_agent.specs.declared.step.AgentStep.{AgentStep}
use Rattle.command_agent.specs.declared.step.Move.{Move}
use Rattle.command_agent.specs.declared.step.Move.TheVariants as moves
use Rattle.command_agent.specs.declared.step.Which.{Which}
use Rattle.command_agent.specs.declared.step.Which.TheVariants.{Ahead, Main}

-- Of a step, by the ORB that it ends
pub record IsEnd (kind : StatusKind) (step : AgentStep) (m : Machine) : Type 0 where
  pub request : step.ask ≡ Write 0 (length m.outgoing)
  pub phase : m.phase ≡ status_phase step.dead
  pub bytes : m.outgoing ≡ status_bytes (block_of m kind)

abbrev pub EndsAs : Option StatusKind → AgentStep → Machine → Type 0
EndsAs None step m = Unit {0}
EndsAs (Some kind) step m = IsEnd kind step m

abbrev Ends : AgentStep × Machine → Type 0
Ends s = EndsAs s.0.ended s.0 s.1

ends : (m : Machine) (kind : StatusKind) (dead : Option FailCause) → Ends (end_step m kind dead)
ends m kind dead = record { request = refl; phase = refl; bytes = refl }

either : (b : Bool) (x y : AgentStep × Machine) → Ends x → Ends y → Ends (cond b x y)
either true x y h i = h
either false x y h i = i

-- what it ran is told beside it
ran_with : (outcome : Outcome) (ended : Option StatusKind) (step : AgentStep) (m : Machine) → EndsAs ended step m → EndsAs ended (record step { ran = Some outcome }) m
ran_with outcome None step m h = tt
ran_with outcome (Some kind) step m h = record { request = h.request; phase = h.phase; bytes = h.bytes }

run_ends : (m : Machine) (outcome : Outcome) → Ends (ran_as m outcome)
run_ends m (outcomes.Check sense) = ends m (kinds.Check sense) None
run_ends m (outcomes.Good len) = either (len == 0) (end_step m kinds.Good None) (answer_step m) (ends m kinds.Good None) tt

runs : (m : Machine) (run : Told) → Ends (run_step m run)
runs m run =
    let n = record m { answer = run.answer; written = 0 } in
    let s = ran_as n run.outcome in ran_with run.outcome s.0.ended s.0 s.1 (run_ends n run.outcome)

judged_ends : (m : Machine) (run : Told) (need : Need) → Ends (judged m run need)
judged_ends m run needs.RunNow = runs m run
judged_ends m run (needs.Payload len) = tt

judges : (m : Machine) (place : ℕ) (plain : PlainDisk) (run : Told) → Ends (judge_step m place plain run)
judges m place plain run = judged_ends m run (need_of m.orb.cdb (plan_of m) plain place)

checked_ends : (m : Machine) (place : ℕ) (plain : PlainDisk) (run : Told) (found : Option StatusKind) → Ends (checked m place plain run found)
checked_ends m place plain run (Some kind) = ends m kind (death_by kind)
checked_ends m place plain run None =
    let n = record m { segments = unread_buffer m.orb } in
    either (reads_table m.orb) (asks (Read m.orb.descriptor (8 * m.orb.data_size)), record m { phase = phases.ReadingTable }) (judge_step n place plain run) tt (judges n place plain run)

-- and its read ahead is asked for behind it
ahead_with : (next : ℕ) (ended : Option StatusKind) (step : AgentStep) (m : Machine) → EndsAs ended step m → (let s = ahead_of None (pointers.At next) (step, m) in EndsAs ended s.0 s.1)
ahead_with next None step m h = tt
ahead_with next (Some kind) step m h = record { request = h.request; phase = h.phase; bytes = h.bytes }

ahead_ends : (dead : Option FailCause) (next : OrbPointer) (s : AgentStep × Machine) → Ends s → Ends (ahead_of dead next s)
ahead_ends None (pointers.At next) s h = ahead_with next s.0.ended s.0 s.1 h
ahead_ends None pointers.Null s h = h
ahead_ends (Some cause) next s h = h

-- ---- a reply to the main transaction
abbrev Moves : Move × Machine → Type 0
Moves (moves.Send step, m) = EndsAs step.ended step m
Moves (moves.Check, m) = Unit {0}
Moves (moves.Judge, m) = Unit {0}
Moves (moves.Run, m) = Unit {0}

pick : (b : Bool) (x y : Move × Machine) → Moves x → Moves y → Moves (cond b x y)
pick true x y h i = h
pick false x y h i = i

sends : (s : AgentStep × Machine) → Ends s → Moves (sent s)
sends s h = h

turn_moves : (m : Machine) (next : ℕ) (ahead : ReadAhead) → Moves (turn_step m next ahead)
turn_moves m next aheads.Idle = tt
turn_moves m next (aheads.UnderWay rung) = tt
turn_moves m next (aheads.Kept orb) = tt

follow_moves : (m : Machine) (next : OrbPointer) → Moves (follow_step m next)
follow_moves m (pointers.At next) = turn_moves m next m.ahead
follow_moves m pointers.Null = sends (wait_step m) (either m.doorbell (reread_step m) (quiet, record m { phase = phases.Suspended }) tt tt)

orb_moves : (m : Machine) (bytes : Result (List ℕ) FailCause) → Moves (orb_read m bytes)
orb_moves m (Err cause) = ends m kinds.Failed (Some cause)
orb_moves m (Ok bytes) = tt

elements_moves : (m : Machine) (bytes : List ℕ) (fault : Option PageFault) → Moves (elements_read m bytes fault)
elements_moves m bytes None = tt
elements_moves m bytes (Some fault) = record { request = refl; phase = refl; bytes = refl }

table_moves : (m : Machine) (bytes : Result (List ℕ) FailCause) → Moves (table_read m bytes)
table_moves m (Err cause) = ends m kinds.Failed (Some cause)
table_moves m (Ok bytes) =
    let fault = first_fault 0 (elements_of bytes) in pick m.aborted (sent (end_step m kinds.Aborted None)) (elements_read m bytes fault) (ends m kinds.Aborted None) (elements_moves m bytes fault)

data_moves : (m : Machine) (wanted : ℕ) (bytes : Result (List ℕ) FailCause) → Moves (data_read m wanted bytes)
data_moves m wanted (Err cause) = ends m kinds.Failed (Some cause)
data_moves m wanted (Ok bytes) =
    let n = record m { payload = m.payload ++ bytes } in
    pick m.aborted (sent (end_step m kinds.Aborted None)) (data_grown n wanted) (ends m kinds.Aborted None) (pick (length n.payload == wanted) (moves.Run, n) (sent (data_step n wanted)) tt tt)

chunk_moves : (m : Machine) (failure : Option FailCause) → Moves (chunk_written m failure)
chunk_moves m (Some cause) = ends m kinds.Failed (Some cause)
chunk_moves m None =
    let n = record m { written = m.written + answer_chunk m } in
    sends (cond (n.written == length n.answer) (end_step n kinds.Good None) (answer_step n))
    (either (n.written == length n.answer) (end_step n kinds.Good None) (answer_step n) (ends n kinds.Good None) tt)

written_moves : (m : Machine) (failure : Option FailCause) → Moves (status_written m failure)
written_moves m (Some cause) = tt
written_moves m None = follow_moves m m.orb.next

next_moves : (m : Machine) (bytes : Result (List ℕ) FailCause) → Moves (next_read m bytes)
next_moves m (Err cause) = tt
next_moves m (Ok bytes) = follow_moves (record m { orb = record m.orb { next = pointer_at bytes 0 } }) (pointer_at bytes 0)

advanced_moves : (phase : Phase) (m : Machine) (answer : Answer) → Moves (advanced phase m answer)
advanced_moves phases.Reset m answer = tt
advanced_moves phases.Fetching m answer = orb_moves m (payload_of answer 32)
advanced_moves phases.ReadingTable m answer = table_moves m (payload_of answer (8 * m.orb.data_size))
advanced_moves (phases.ReadingData wanted) m answer = data_moves m wanted (payload_of answer (chunk_of m (length m.payload) wanted).length)
advanced_moves phases.Answering m answer = chunk_moves m (write_failure answer)
advanced_moves phases.WritingStatus m answer = written_moves m (write_failure answer)
advanced_moves phases.ReadingNext m answer = next_moves m (payload_of answer 8)
advanced_moves phases.WritingLastStatus m answer = tt
advanced_moves phases.Suspended m answer = tt
advanced_moves phases.Dead m answer = tt

served_ends : (place : ℕ) (plain : PlainDisk) (run : Told) (r : Move × Machine) → Moves r → Ends (served place plain run r.0 r.1)
served_ends place plain run (moves.Send step, m) h = h
served_ends place plain run (moves.Check, m) h = let s = check_step m place plain run in ahead_ends s.0.dead s.1.orb.next s (checked_ends m place plain run (verdict m.orb m.aborted))
served_ends place plain run (moves.Judge, m) h = judges m place plain run
served_ends place plain run (moves.Run, m) h = runs m run

-- ---- and to the read ahead
read_ends : (m : Machine) (bytes : Result (List ℕ) FailCause) → Ends (ahead_read m bytes)
read_ends m (Ok bytes) = tt
read_ends m (Err cause) = tt

pub reply_ends : (m : Machine) (place : ℕ) (plain : PlainDisk) (run : Option Told) (which : Which) (answer : Answer) → (let s = reply_step m place plain run which answer in EndsAs s.0.ended s.0 s.1)
unfolding reply_step
reply_ends m place plain run Main answer = served_ends place plain (told_or run) (advanced m.phase m answer) (advanced_moves m.phase m answer)
reply_ends m place plain run Ahead answer = either (is_ahead m.ahead) (ahead_step m answer) (quiet, m) (read_ends m (payload_of answer 32)) tt
