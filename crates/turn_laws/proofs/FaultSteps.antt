-- A step of an agent that ends an ORB as failed or illegal makes the agent dead.
use Rattle.std.proofs.Common.{ℕ, ◌+◌, ◌*◌, ◌^◌, ◌==◌, ◌&&◌, nat_lt, not, Bool, true, false, cond, List, ◌++◌, length, Option, Some, None, Result, Ok, Err}
use Rattle.orb_layout.specs.declared.ask.Ask.TheVariants.{Read}
use Rattle.orb_layout.specs.declared.ask.FailCause.{FailCause}
use Rattle.orb_layout.specs.declared.command.CommandOrb.{CommandOrb}
use Rattle.orb_layout.specs.declared.pointer.OrbPointer.{OrbPointer}
use Rattle.orb_layout.specs.declared.pointer.OrbPointer.TheVariants as pointers
use Rattle.orb_layout.specs.declared.status.StatusKind.{StatusKind}
use Rattle.orb_layout.specs.declared.status.StatusKind.TheVariants as kinds
use Rattle.orb_layout.specs.Pointers.{pointer_at}
use Rattle.orb_layout.specs.Replies.{Answer, payload_of, write_failure}
use Rattle.page_table.specs.declared.fault.PageFault.{PageFault}
use Rattle.page_table.specs.Elements.{elements_of, first_fault}
use Rattle.rbc_disk.specs.declared.command.Need.{Need}
use Rattle.rbc_disk.specs.declared.command.Need.TheVariants as needs
use Rattle.rbc_disk.specs.declared.command.Outcome.{Outcome}
use Rattle.rbc_disk.specs.declared.command.Outcome.TheVariants as outcomes
use Rattle.rbc_disk.specs.Runs.{Told, need_of}
use Rattle.rbc_disk.specs.Units.{PlainDisk}
use Rattle.command_agent.specs.Checks.{death_by, reads_table, refusal, verdict}
use Rattle.command_agent.specs.Machine.{Machine, chunk_of, is_ahead, plan_of}
use Rattle.command_agent.specs.Steps.{advanced, ahead_lost, ahead_of, ahead_read, ahead_step, answer_chunk, answer_grown, answer_step, asks, check_step, checked, chunk_written, data_grown, data_read, data_step, elements_read, end_step, follow_step, judge_step, judged, lost_step, main_lost, next_read, orb_read, quiet, ran_as, reply_step, reread_step, run_step, sent, served, status_written, table_read, told_or, turn_step, unread_buffer, with_outcome}
use Rattle.command_agent.specs.declared.phase.Phase.{Phase}
use Rattle.command_agent.specs.declared.phase.Phase.TheVariants as phases
use Rattle.command_agent.specs.declared.phase.ReadAhead.{ReadAhead}
use Rattle.command_agent.specs.declared.phase.ReadAhead.TheVariants as aheads
use Rattle.command_agent.specs.declared.step.AgentStep.{AgentStep}
use Rattle.command_agent.specs.declared.step.Move.{Move}
use Rattle.command_agent.specs.declared.step.Move.TheVariants as moves
use Rattle.command_agent.specs.declared.step.Which.{Which}
use Rattle.command_agent.specs.declared.step.Which.TheVariants.{Ahead, Main}

-- a fault has a death
abbrev pub Deadly : Option FailCause → Option StatusKind → Type 0
Deadly None (Some kinds.Failed) = ⊥
Deadly None (Some (kinds.Illegal meaning)) = ⊥
Deadly None (Some kind) = Unit {0}
Deadly None None = Unit {0}
Deadly (Some cause) ended = Unit {0}

abbrev pub IsSound : AgentStep → Type 0
IsSound step = Deadly step.dead step.ended

abbrev Steps : AgentStep × Machine → Type 0
Steps s = IsSound s.0

either : (b : Bool) (x y : AgentStep × Machine) → Steps x → Steps y → Steps (cond b x y)
either true x y h i = h
either false x y h i = i

-- ---- a command runs
run_sound : (m : Machine) (told : Told) → Steps (run_step m told)
run_sound m told = by told.outcome (record m { answer = told.answer; written = 0 })
  where
    good : (b : Bool) (len : ℕ) (n : Machine) → Steps (with_outcome (outcomes.Good len) (cond b (end_step n kinds.Good None) (answer_step n)))
    good true len n = tt
    good false len n = tt

    by : (outcome : Outcome) (n : Machine) → Steps (with_outcome outcome (ran_as n outcome))
    by (outcomes.Check sense) n = tt
    by (outcomes.Good len) n = good (len == 0) len n

judge_sound : (m : Machine) (place : ℕ) (plain : PlainDisk) (told : Told) → Steps (judge_step m place plain told)
judge_sound m place plain told = by (need_of m.orb.cdb (plan_of m) plain place)
  where
    by : (need : Need) → Steps (judged m told need)
    by needs.RunNow = run_sound m told
    by (needs.Payload len) = tt

-- ---- an ORB is checked, and the one behind it read
-- how it ends by its checks
abbrev EndsSoundly : Option StatusKind → Type 0
EndsSoundly None = Unit {0}
EndsSoundly (Some kind) = Deadly (death_by kind) (Some kind)

first_of : (b : Bool) (x y : Option StatusKind) → EndsSoundly x → EndsSoundly y → EndsSoundly (cond b x y)
first_of true x y p q = p
first_of false x y p q = q

refusal_sound : (orb : CommandOrb) → EndsSoundly (refusal orb)
unfolding refusal
refusal_sound orb =
    first_of (nat_lt 2 orb.speed) (Some (kinds.Illegal 0x02)) _ tt
    (first_of (nat_lt (7 + orb.speed) orb.max_payload) (Some (kinds.Illegal 0xff)) _ tt
    (first_of (orb.has_table && not (orb.page_size == 0)) (Some (kinds.Illegal 0x03)) _ tt
    (first_of (orb.has_table && nat_lt 64 orb.data_size) (Some (kinds.Illegal 0xff)) _ tt
    (first_of (not orb.has_table && nat_lt (2 ^ 48) (orb.descriptor + orb.data_size)) (Some (kinds.Illegal 0xff)) None tt tt))))

verdict_sound : (orb : CommandOrb) (aborted : Bool) → EndsSoundly (verdict orb aborted)
unfolding verdict
verdict_sound orb aborted =
    first_of (orb.format == 3) (Some kinds.Dummy) _ tt
    (first_of (not (orb.format == 0)) (Some (kinds.Illegal 0x01)) _ tt
    (first_of aborted (Some kinds.Aborted) _ tt (refusal_sound orb)))

check_sound : (m : Machine) (place : ℕ) (plain : PlainDisk) (told : Told) → Steps (check_step m place plain told)
check_sound m place plain told = by (verdict m.orb m.aborted) (verdict_sound m.orb m.aborted)
  where
    by : (found : Option StatusKind) → EndsSoundly found → Steps (checked m place plain told found)
    by (Some kind) e = e
    by None e =
        let n = record m { segments = unread_buffer m.orb } in
        either (reads_table m.orb) (asks (Read m.orb.descriptor (8 * m.orb.data_size)), record m { phase = phases.ReadingTable }) (judge_step n place plain told) tt (judge_sound n place plain told)

ahead_sound : (dead : Option FailCause) (next : OrbPointer) (s : AgentStep × Machine) → Steps s → Steps (ahead_of dead next s)
ahead_sound None (pointers.At next) s h = h
ahead_sound None pointers.Null s h = h
ahead_sound (Some cause) next s h = h

-- ---- a reply to the main transaction
abbrev Moves : Move × Machine → Type 0
Moves (moves.Send step, m) = IsSound step
Moves (move, m) = Unit {0}

pick : (b : Bool) (x y : Move × Machine) → Moves x → Moves y → Moves (cond b x y)
pick true x y h i = h
pick false x y h i = i

turn_moves : (m : Machine) (next : ℕ) (ahead : ReadAhead) → Moves (turn_step m next ahead)
turn_moves m next aheads.Idle = tt
turn_moves m next (aheads.UnderWay rung) = tt
turn_moves m next (aheads.Kept orb) = tt

follow_moves : (m : Machine) (next : OrbPointer) → Moves (follow_step m next)
follow_moves m (pointers.At next) = turn_moves m next m.ahead
follow_moves m pointers.Null = either m.doorbell (reread_step m) (quiet, record m { phase = phases.Suspended }) tt tt

orb_moves : (m : Machine) (bytes : Result (List ℕ) FailCause) → Moves (orb_read m bytes)
orb_moves m (Err cause) = tt
orb_moves m (Ok bytes) = tt

elements_moves : (m : Machine) (bytes : List ℕ) (fault : Option PageFault) → Moves (elements_read m bytes fault)
elements_moves m bytes None = tt
elements_moves m bytes (Some fault) = tt

table_moves : (m : Machine) (bytes : Result (List ℕ) FailCause) → Moves (table_read m bytes)
table_moves m (Err cause) = tt
table_moves m (Ok bytes) =
    let fault = first_fault 0 (elements_of bytes) in pick m.aborted (sent (end_step m kinds.Aborted None)) (elements_read m bytes fault) tt (elements_moves m bytes fault)

grows_moves : (m : Machine) (wanted : ℕ) → Moves (data_grown m wanted)
grows_moves m wanted = pick (length m.payload == wanted) (moves.Run, m) (sent (data_step m wanted)) tt tt

data_moves : (m : Machine) (wanted : ℕ) (bytes : Result (List ℕ) FailCause) → Moves (data_read m wanted bytes)
data_moves m wanted (Err cause) = tt
data_moves m wanted (Ok bytes) =
    let n = record m { payload = m.payload ++ bytes } in pick m.aborted (sent (end_step m kinds.Aborted None)) (data_grown n wanted) tt (grows_moves n wanted)

grown_moves : (m : Machine) → Moves (answer_grown m)
grown_moves m = either (m.written == length m.answer) (end_step m kinds.Good None) (answer_step m) tt tt

chunk_moves : (m : Machine) (failure : Option FailCause) → Moves (chunk_written m failure)
chunk_moves m (Some cause) = tt
chunk_moves m None = grown_moves (record m { written = m.written + answer_chunk m })

written_moves : (m : Machine) (failure : Option FailCause) → Moves (status_written m failure)
written_moves m (Some cause) = tt
written_moves m None = follow_moves m m.orb.next

next_moves : (m : Machine) (bytes : Result (List ℕ) FailCause) → Moves (next_read m bytes)
next_moves m (Err cause) = tt
next_moves m (Ok bytes) = follow_moves (record m { orb = record m.orb { next = pointer_at bytes 0 } }) (pointer_at bytes 0)

advanced_moves : (phase : Phase) (m : Machine) (answer : Answer) → Moves (advanced phase m answer)
advanced_moves phases.Reset m answer = tt
advanced_moves phases.Fetching m answer = orb_moves m (payload_of answer 32)
advanced_moves phases.ReadingTable m answer = table_moves m (payload_of answer (8 * m.orb.data_size))
advanced_moves (phases.ReadingData wanted) m answer = data_moves m wanted (payload_of answer (chunk_of m (length m.payload) wanted).length)
advanced_moves phases.Answering m answer = chunk_moves m (write_failure answer)
advanced_moves phases.WritingStatus m answer = written_moves m (write_failure answer)
advanced_moves phases.ReadingNext m answer = next_moves m (payload_of answer 8)
advanced_moves phases.WritingLastStatus m answer = tt
advanced_moves phases.Suspended m answer = tt
advanced_moves phases.Dead m answer = tt

served_sound : (place : ℕ) (plain : PlainDisk) (told : Told) (r : Move × Machine) → Moves r → Steps (served place plain told r.0 r.1)
served_sound place plain told (moves.Send step, m) h = h
served_sound place plain told (moves.Check, m) h = let s = check_step m place plain told in ahead_sound s.0.dead s.1.orb.next s (check_sound m place plain told)
served_sound place plain told (moves.Judge, m) h = judge_sound m place plain told
served_sound place plain told (moves.Run, m) h = run_sound m told

-- ---- a reply to the read ahead
ahead_read_sound : (m : Machine) (bytes : Result (List ℕ) FailCause) → Steps (ahead_read m bytes)
ahead_read_sound m (Ok bytes) = tt
ahead_read_sound m (Err cause) = tt

pub reply_sound : (m : Machine) (place : ℕ) (plain : PlainDisk) (told : Option Told) (which : Which) (answer : Answer) → IsSound (reply_step m place plain told which answer).0
unfolding reply_step
reply_sound m place plain told Main answer = served_sound place plain (told_or told) (advanced m.phase m answer) (advanced_moves m.phase m answer)
reply_sound m place plain told Ahead answer = either (is_ahead m.ahead) (ahead_step m answer) (quiet, m) (ahead_read_sound m (payload_of answer 32)) tt

-- ---- a transaction that failed
main_lost_sound : (phase : Phase) (m : Machine) (cause : FailCause) → Steps (main_lost phase m cause)
main_lost_sound phases.Reset m cause = tt
main_lost_sound phases.Fetching m cause = tt
main_lost_sound phases.ReadingTable m cause = tt
main_lost_sound (phases.ReadingData wanted) m cause = tt
main_lost_sound phases.Answering m cause = tt
main_lost_sound phases.WritingStatus m cause = tt
main_lost_sound phases.ReadingNext m cause = tt
main_lost_sound phases.WritingLastStatus m cause = tt
main_lost_sound phases.Suspended m cause = tt
main_lost_sound phases.Dead m cause = tt

pub lost_sound : (m : Machine) (which : Which) (cause : FailCause) → IsSound (lost_step m which cause).0
unfolding lost_step
lost_sound m Main cause = main_lost_sound m.phase m cause
lost_sound m Ahead cause = either (is_ahead m.ahead) (ahead_lost m cause) (quiet, m) tt tt
