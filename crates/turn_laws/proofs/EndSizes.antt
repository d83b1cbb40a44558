-- A write that a step of an agent asks for and that ends no ORB, a chunk of an answer, has as many bytes as the step asks for.
use Rattle.std.proofs.Common.{◌≡◌, ℕ, ◌+◌, ◌-◌, ◌*◌, ◌==◌, Bool, true, false, cond, List, ◌++◌, length, Option, Some, None, Result, Ok, Err}
use Rattle.orb_layout.specs.declared.ask.Ask.{Ask}
use Rattle.orb_layout.specs.declared.ask.Ask.TheVariants.{Nothing, Read, Write}
use Rattle.orb_layout.specs.declared.ask.FailCause.{FailCause}
use Rattle.orb_layout.specs.declared.pointer.OrbPointer.{OrbPointer}
use Rattle.orb_layout.specs.declared.pointer.OrbPointer.TheVariants as pointers
use Rattle.orb_layout.specs.declared.status.StatusKind.{StatusKind}
use Rattle.orb_layout.specs.declared.status.StatusKind.TheVariants as kinds
use Rattle.orb_layout.specs.Pointers.{pointer_at}
use Rattle.orb_layout.specs.Replies.{Answer, payload_of, write_failure}
use Rattle.page_table.specs.Buffer.{chunk_from}
use Rattle.page_table.specs.declared.fault.PageFault.{PageFault}
use Rattle.page_table.specs.Elements.{elements_of, first_fault}
use Rattle.rbc_disk.specs.declared.command.Need.{Need}
use Rattle.rbc_disk.specs.declared.command.Need.TheVariants as needs
use Rattle.rbc_disk.specs.declared.command.Outcome.{Outcome}
use Rattle.rbc_disk.specs.declared.command.Outcome.TheVariants as outcomes
use Rattle.rbc_disk.specs.Runs.{Told, need_of}
use Rattle.rbc_disk.specs.Units.{PlainDisk}
use Rattle.command_agent.specs.Checks.{reads_table, verdict}
use Rattle.command_agent.specs.Machine.{Machine, chunk_of, is_ahead, limit_of, plan_of, state_in}
use Rattle.command_agent.specs.Steps.{advanced, ahead_lost, ahead_of, ahead_read, ahead_step, answer_chunk, answer_step, asks, check_step, checked, chunk_written, data_grown, data_read, data_step, doorbell_in, doorbell_step, elements_read, end_step, follow_step, judge_step, judged, lost_step, main_lost, next_read, orb_read, point_in, point_step, pointed, quiet, ran_as, reply_step, reread_step, run_step, sent, served, status_written, table_read, told_or, turn_step, unread_buffer, wait_step}
use Rattle.command_agent.specs.declared.phase.Phase.{Phase}
use Rattle.command_agent.specs.declared.phase.Phase.TheVariants as phases
use Rattle.command_agent.specs.declared.phase.ReadAhead.{ReadAhead}
use Rattle.command_agent.specs.declared.phase.ReadAhead.TheVariants as aheads
use Rattle.command_agent.specs.declared.step.AgentState.{AgentState}
use Rattle.command_agent.specs.declared.step.AgentState.TheVariants as states
use Rattle.command_agent.specs.declared.step.AgentStep.{AgentStep}
use Rattle.command_agent.specs.declared.step.Move.{Move}
use Rattle.command_agent.specs.declared.step.Move.TheVariants as moves
use Rattle.command_agent.specs.declared.step.PointRefusal.{PointRefusal}
use Rattle.command_agent.specs.declared.step.Which.{Which}
use Rattle.command_agent.specs.declared.step.Which.TheVariants.{Ahead, Main}
use Rattle.sbp_world.proofs.Agents.Sized.{chunk_few, taken_size}

abbrev pub IsSizedBy : Option StatusKind → Ask → List ℕ → Type 0
IsSizedBy None (Write offset len) outgoing = length outgoing ≡ len
IsSizedBy None Nothing outgoing = Unit {0}
IsSizedBy None (Read offset len) outgoing = Unit {0}
IsSizedBy (Some kind) ask outgoing = Unit {0}

abbrev Sized : AgentStep × Machine → Type 0
Sized s = IsSizedBy s.0.ended s.0.ask s.1.outgoing

either : (b : Bool) (x y : AgentStep × Machine) → Sized x → Sized y → Sized (cond b x y)
either true x y h i = h
either false x y h i = i

answers : (m : Machine) → Sized (answer_step m)
answers m = taken_size (answer_chunk m) m.written m.answer (chunk_few (length m.answer - m.written) (chunk_from m.segments m.written (limit_of m.orb)))

run_sized : (m : Machine) (outcome : Outcome) → Sized (ran_as m outcome)
run_sized m (outcomes.Check sense) = tt
run_sized m (outcomes.Good len) = either (len == 0) (end_step m kinds.Good None) (answer_step m) tt (answers m)

runs : (m : Machine) (run : Told) → Sized (run_step m run)
runs m run = run_sized (record m { answer = run.answer; written = 0 }) run.outcome

judged_sized : (m : Machine) (run : Told) (need : Need) → Sized (judged m run need)
judged_sized m run needs.RunNow = runs m run
judged_sized m run (needs.Payload len) = tt

judges : (m : Machine) (place : ℕ) (plain : PlainDisk) (run : Told) → Sized (judge_step m place plain run)
judges m place plain run = judged_sized m run (need_of m.orb.cdb (plan_of m) plain place)

checked_sized : (m : Machine) (place : ℕ) (plain : PlainDisk) (run : Told) (found : Option StatusKind) → Sized (checked m place plain run found)
checked_sized m place plain run (Some kind) = tt
checked_sized m place plain run None =
    let n = record m { segments = unread_buffer m.orb } in
    either (reads_table m.orb) (asks (Read m.orb.descriptor (8 * m.orb.data_size)), record m { phase = phases.ReadingTable }) (judge_step n place plain run) tt (judges n place plain run)

ahead_sized : (dead : Option FailCause) (next : OrbPointer) (s : AgentStep × Machine) → Sized s → Sized (ahead_of dead next s)
ahead_sized None (pointers.At next) s h = h
ahead_sized None pointers.Null s h = h
ahead_sized (Some cause) next s h = h

-- ---- a reply to the main transaction
abbrev Moves : Move × Machine → Type 0
Moves (moves.Send step, m) = IsSizedBy step.ended step.ask m.outgoing
Moves (moves.Check, m) = Unit {0}
Moves (moves.Judge, m) = Unit {0}
Moves (moves.Run, m) = Unit {0}

pick : (b : Bool) (x y : Move × Machine) → Moves x → Moves y → Moves (cond b x y)
pick true x y h i = h
pick false x y h i = i

sends : (s : AgentStep × Machine) → Sized s → Moves (sent s)
sends s h = h

turn_moves : (m : Machine) (next : ℕ) (ahead : ReadAhead) → Moves (turn_step m next ahead)
turn_moves m next aheads.Idle = tt
turn_moves m next (aheads.UnderWay rung) = tt
turn_moves m next (aheads.Kept orb) = tt

follow_moves : (m : Machine) (next : OrbPointer) → Moves (follow_step m next)
follow_moves m (pointers.At next) = turn_moves m next m.ahead
follow_moves m pointers.Null = sends (wait_step m) (either m.doorbell (reread_step m) (quiet, record m { phase = phases.Suspended }) tt tt)

orb_moves : (m : Machine) (bytes : Result (List ℕ) FailCause) → Moves (orb_read m bytes)
orb_moves m (Err cause) = tt
orb_moves m (Ok bytes) = tt

elements_moves : (m : Machine) (bytes : List ℕ) (fault : Option PageFault) → Moves (elements_read m bytes fault)
elements_moves m bytes None = tt
elements_moves m bytes (Some fault) = tt

table_moves : (m : Machine) (bytes : Result (List ℕ) FailCause) → Moves (table_read m bytes)
table_moves m (Err cause) = tt
table_moves m (Ok bytes) =
    let fault = first_fault 0 (elements_of bytes) in pick m.aborted (sent (end_step m kinds.Aborted None)) (elements_read m bytes fault) tt (elements_moves m bytes fault)

data_moves : (m : Machine) (wanted : ℕ) (bytes : Result (List ℕ) FailCause) → Moves (data_read m wanted bytes)
data_moves m wanted (Err cause) = tt
data_moves m wanted (Ok bytes) =
    let n = record m { payload = m.payload ++ bytes } in
    pick m.aborted (sent (end_step m kinds.Aborted None)) (data_grown n wanted) tt (pick (length n.payload == wanted) (moves.Run, n) (sent (data_step n wanted)) tt tt)

chunk_moves : (m : Machine) (failure : Option FailCause) → Moves (chunk_written m failure)
chunk_moves m (Some cause) = tt
chunk_moves m None =
    let n = record m { written = m.written + answer_chunk m } in
    sends (cond (n.written == length n.answer) (end_step n kinds.Good None) (answer_step n)) (either (n.written == length n.answer) (end_step n kinds.Good None) (answer_step n) tt (answers n))

written_moves : (m : Machine) (failure : Option FailCause) → Moves (status_written m failure)
written_moves m (Some cause) = tt
written_moves m None = follow_moves m m.orb.next

next_moves : (m : Machine) (bytes : Result (List ℕ) FailCause) → Moves (next_read m bytes)
next_moves m (Err cause) = tt
next_moves m (Ok bytes) = follow_moves (record m { orb = record m.orb { next = pointer_at bytes 0 } }) (pointer_at bytes 0)

advanced_moves : (phase : Phase) (m : Machine) (answer : Answer) → Moves (advanced phase m answer)
advanced_moves phases.Reset m answer = tt
advanced_moves phases.Fetching m answer = orb_moves m (payload_of answer 32)
advanced_moves phases.ReadingTable m answer = table_moves m (payload_of answer (8 * m.orb.data_size))
advanced_moves (phases.ReadingData wanted) m answer = data_moves m wanted (payload_of answer (chunk_of m (length m.payload) wanted).length)
advanced_moves phases.Answering m answer = chunk_moves m (write_failure answer)
advanced_moves phases.WritingStatus m answer = written_moves m (write_failure answer)
advanced_moves phases.ReadingNext m answer = next_moves m (payload_of answer 8)
advanced_moves phases.WritingLastStatus m answer = tt
advanced_moves phases.Suspended m answer = tt
advanced_moves phases.Dead m answer = tt

served_sized : (place : ℕ) (plain : PlainDisk) (run : Told) (r : Move × Machine) → Moves r → Sized (served place plain run r.0 r.1)
served_sized place plain run (moves.Send step, m) h = h
served_sized place plain run (moves.Check, m) h = let s = check_step m place plain run in ahead_sized s.0.dead s.1.orb.next s (checked_sized m place plain run (verdict m.orb m.aborted))
served_sized place plain run (moves.Judge, m) h = judges m place plain run
served_sized place plain run (moves.Run, m) h = runs m run

-- ---- and to the read ahead
ahead_read_sized : (m : Machine) (bytes : Result (List ℕ) FailCause) → Sized (ahead_read m bytes)
ahead_read_sized m (Ok bytes) = tt
ahead_read_sized m (Err cause) = tt

pub reply_sized : (m : Machine) (place : ℕ) (plain : PlainDisk) (run : Option Told) (which : Which) (answer : Answer) → (let s = reply_step m place plain run which answer in IsSizedBy s.0.ended s.0.ask s.1.outgoing)
unfolding reply_step
reply_sized m place plain run Main answer = served_sized place plain (told_or run) (advanced m.phase m answer) (advanced_moves m.phase m answer)
reply_sized m place plain run Ahead answer = either (is_ahead m.ahead) (ahead_step m answer) (quiet, m) (ahead_read_sized m (payload_of answer 32)) tt

-- ---- a transaction that failed
main_lost_sized : (phase : Phase) (m : Machine) (cause : FailCause) → Sized (main_lost phase m cause)
main_lost_sized phases.Reset m cause = tt
main_lost_sized phases.Fetching m cause = tt
main_lost_sized phases.ReadingTable m cause = tt
main_lost_sized (phases.ReadingData wanted) m cause = tt
main_lost_sized phases.Answering m cause = tt
main_lost_sized phases.WritingStatus m cause = tt
main_lost_sized phases.ReadingNext m cause = tt
main_lost_sized phases.WritingLastStatus m cause = tt
main_lost_sized phases.Suspended m cause = tt
main_lost_sized phases.Dead m cause = tt

pub lost_sized : (m : Machine) (which : Which) (cause : FailCause) → (let s = lost_step m which cause in IsSizedBy s.0.ended s.0.ask s.1.outgoing)
unfolding lost_step
lost_sized m Main cause = main_lost_sized m.phase m cause
lost_sized m Ahead cause = either (is_ahead m.ahead) (ahead_lost m cause) (quiet, m) tt tt

-- ---- a pointer and a doorbell read
abbrev pub IsNoWrite : Ask → Type 0
IsNoWrite Nothing = Unit {0}
IsNoWrite (Read offset len) = Unit {0}
IsNoWrite (Write offset len) = ⊥

pub no_write_sized : (ask : Ask) (outgoing : List ℕ) → IsNoWrite ask → IsSizedBy None ask outgoing
no_write_sized Nothing outgoing h = tt
no_write_sized (Read offset len) outgoing h = tt
no_write_sized (Write offset len) outgoing h = absurd h

abbrev pub ReadsIf : Result Ask PointRefusal × Machine → Type 0
ReadsIf (Ok ask, m) = IsNoWrite ask
ReadsIf (Err refusal, m) = Unit {0}

pointed_reads : (m : Machine) (pointer : OrbPointer) → ReadsIf (pointed m pointer)
pointed_reads m pointers.Null = tt
pointed_reads m (pointers.At next) = tt

point_in_reads : (state : AgentState) (m : Machine) (pointer : OrbPointer) → ReadsIf (point_in state m pointer)
point_in_reads states.Reset m pointer = pointed_reads m pointer
point_in_reads states.Suspended m pointer = pointed_reads m pointer
point_in_reads states.Active m pointer = tt
point_in_reads states.Dead m pointer = tt

pub point_reads : (m : Machine) (pointer : OrbPointer) → ReadsIf (point_step m pointer)
unfolding point_step
point_reads m pointer = point_in_reads (state_in m.phase) m pointer

ring_in_reads : (state : AgentState) (m : Machine) → IsNoWrite (doorbell_in state m).0
ring_in_reads states.Reset m = tt
ring_in_reads states.Active m = tt
ring_in_reads states.Suspended m = tt
ring_in_reads states.Dead m = tt

pub ring_reads : (m : Machine) → IsNoWrite (doorbell_step m).0
unfolding doorbell_step
ring_reads m = ring_in_reads (state_in m.phase) m
