-- A step of an agent that ends an ORB writes its status; one in which the agent dies and no ORB ends asks for nothing; behind one that asks the main transaction is under way, and a write
-- without an end is of a chunk of an answer.
use Rattle.std.proofs.Common.{◌≡◌, refl, ℕ, ◌+◌, ◌*◌, ◌==◌, Bool, true, false, cond, List, ◌++◌, length, Option, Some, None, Result, Ok, Err}
use Rattle.orb_layout.specs.declared.ask.Ask.{Ask}
use Rattle.orb_layout.specs.declared.ask.Ask.TheVariants.{Nothing, Read, Write}
use Rattle.orb_layout.specs.declared.ask.FailCause.{FailCause}
use Rattle.orb_layout.specs.declared.pointer.OrbPointer.{OrbPointer}
use Rattle.orb_layout.specs.declared.pointer.OrbPointer.TheVariants as pointers
use Rattle.orb_layout.specs.declared.status.StatusKind.{StatusKind}
use Rattle.orb_layout.specs.declared.status.StatusKind.TheVariants as kinds
use Rattle.orb_layout.specs.Pointers.{pointer_at}
use Rattle.orb_layout.specs.Replies.{Answer, payload_of, write_failure}
use Rattle.page_table.specs.declared.fault.PageFault.{PageFault}
use Rattle.page_table.specs.Elements.{elements_of, first_fault}
use Rattle.rbc_disk.specs.declared.command.Need.{Need}
use Rattle.rbc_disk.specs.declared.command.Need.TheVariants as needs
use Rattle.rbc_disk.specs.declared.command.Outcome.{Outcome}
use Rattle.rbc_disk.specs.declared.command.Outcome.TheVariants as outcomes
use Rattle.rbc_disk.specs.Runs.{Told, need_of}
use Rattle.rbc_disk.specs.Units.{PlainDisk}
use Rattle.command_agent.specs.Checks.{death_by, reads_table, verdict}
use Rattle.command_agent.specs.Machine.{Machine, chunk_of, is_ahead, is_sent, plan_of}
use Rattle.command_agent.specs.Steps.{advanced, ahead_lost, ahead_of, ahead_read, ahead_step, answer_chunk, answer_grown, answer_step, asks, check_step, checked, chunk_written, data_grown, data_read, data_step, dead_step, elements_read, end_step, follow_step, judge_step, judged, lost_step, main_lost, next_read, orb_read, quiet, ran_as, reply_step, reread_step, run_step, sent, served, status_written, table_read, told_or, turn_step, unread_buffer, wait_step, with_outcome}
use Rattle.command_agent.specs.declared.phase.Phase.{Phase}
use Rattle.command_agent.specs.declared.phase.Phase.TheVariants as phases
use Rattle.command_agent.specs.declared.phase.ReadAhead.{ReadAhead}
use Rattle.command_agent.specs.declared.phase.ReadAhead.TheVariants as aheads
use Rattle.command_agent.specs.declared.step.AgentStep.{AgentStep}
use Rattle.command_agent.specs.declared.step.Move.{Move}
use Rattle.command_agent.specs.declared.step.Move.TheVariants as moves
use Rattle.command_agent.specs.declared.step.Which.{Which}
use Rattle.command_agent.specs.declared.step.Which.TheVariants.{Ahead, Main}
use Rattle.label_table.specs.Bodies.{Body}
use Rattle.sbp_target.specs.Agents.{agent_body}
use Rattle.sbp_laws.specs.Agents.{is_answering}
use Rattle.turn_laws.proofs.EndTries.{IsShaped, found_by}

-- it asks for nothing where the agent died and no ORB ended
abbrev pub IsMute : Option StatusKind → Option FailCause → Ask → Type 0
IsMute None (Some cause) Nothing = Unit {0}
IsMute None (Some cause) (Read offset len) = ⊥
IsMute None (Some cause) (Write offset len) = ⊥
IsMute None None ask = Unit {0}
IsMute (Some kind) dead ask = Unit {0}

abbrev pub IsUnderWay : Option StatusKind → Ask → Phase → Type 0
IsUnderWay ended Nothing phase = Unit {0}
IsUnderWay ended (Read offset len) phase = is_sent phase ≡ true
IsUnderWay (Some kind) (Write offset len) phase = is_sent phase ≡ true
IsUnderWay None (Write offset len) phase = (is_sent phase ≡ true) × (is_answering phase ≡ true)

abbrev pub IsShapedStep : AgentStep × Machine → Type 0
IsShapedStep (step, m) = IsShaped step.ended step.dead m.phase × (IsMute step.ended step.dead step.ask × IsUnderWay step.ended step.ask m.phase)

abbrev Steps : AgentStep × Machine → Type 0
Steps s = IsShapedStep (s.0, s.1)

nothing : (m : Machine) → Steps (quiet, m)
nothing m = (tt, (tt, tt))

ends : (m : Machine) (kind : StatusKind) (dead : Option FailCause) → Steps (end_step m kind dead)
ends m kind None = (tt, (tt, refl))
ends m kind (Some cause) = (tt, (tt, refl))

either : (b : Bool) (x y : AgentStep × Machine) → Steps x → Steps y → Steps (cond b x y)
either true x y h i = h
either false x y h i = i

-- ---- a command runs
answers : (m : Machine) → Steps (answer_step m)
answers m = (tt, (tt, (refl, refl)))

data_reads : (m : Machine) (wanted : ℕ) → Steps (data_step m wanted)
data_reads m wanted = (tt, (tt, refl))

run_shaped : (m : Machine) (run : Told) → Steps (run_step m run)
run_shaped m run = by run.outcome (record m { answer = run.answer; written = 0 })
  where
    good : (b : Bool) (len : ℕ) (n : Machine) → Steps (with_outcome (outcomes.Good len) (cond b (end_step n kinds.Good None) (answer_step n)))
    good true len n = ends n kinds.Good None
    good false len n = answers n

    by : (outcome : Outcome) (n : Machine) → Steps (with_outcome outcome (ran_as n outcome))
    by (outcomes.Check sense) n = ends n (kinds.Check sense) None
    by (outcomes.Good len) n = good (len == 0) len n

judge_shaped : (m : Machine) (place : ℕ) (plain : PlainDisk) (run : Told) → Steps (judge_step m place plain run)
judge_shaped m place plain run = by (need_of m.orb.cdb (plan_of m) plain place)
  where
    by : (need : Need) → Steps (judged m run need)
    by needs.RunNow = run_shaped m run
    by (needs.Payload len) = data_reads m len

-- ---- an ORB is checked, and the one behind it read
check_shaped : (m : Machine) (place : ℕ) (plain : PlainDisk) (run : Told) → Steps (check_step m place plain run)
check_shaped m place plain run = by (verdict m.orb m.aborted)
  where
    by : (found : Option StatusKind) → Steps (checked m place plain run found)
    by (Some kind) = ends m kind (death_by kind)
    by None =
        let n = record m { segments = unread_buffer m.orb } in
        either (reads_table m.orb) (asks (Read m.orb.descriptor (8 * m.orb.data_size)), record m { phase = phases.ReadingTable }) (judge_step n place plain run) (tt, (tt, refl)) (judge_shaped n place plain run)

ahead_shaped : (dead : Option FailCause) (next : OrbPointer) (s : AgentStep × Machine) → Steps s → Steps (ahead_of dead next s)
ahead_shaped None (pointers.At next) s h = h
ahead_shaped None pointers.Null s h = h
ahead_shaped (Some cause) next s h = h

-- ---- a reply to the main transaction
abbrev Moves : Move × Machine → Type 0
Moves (moves.Send step, m) = IsShapedStep (step, m)
Moves (move, m) = Unit {0}

sends : (s : AgentStep × Machine) → Steps s → Moves (sent s)
sends s h = h

pick : (b : Bool) (x y : Move × Machine) → Moves x → Moves y → Moves (cond b x y)
pick true x y h i = h
pick false x y h i = i

dead : (m : Machine) (cause : FailCause) → Moves (sent (dead_step m cause))
dead m cause = (tt, (tt, tt))

fails : (m : Machine) (cause : FailCause) → Moves (sent (end_step m kinds.Failed (Some cause)))
fails m cause = (tt, (tt, refl))

turn_moves : (m : Machine) (next : ℕ) (ahead : ReadAhead) → Moves (turn_step m next ahead)
turn_moves m next aheads.Idle = (tt, (tt, refl))
turn_moves m next (aheads.UnderWay rung) = (tt, (tt, tt))
turn_moves m next (aheads.Kept orb) = tt

follow_moves : (m : Machine) (next : OrbPointer) → Moves (follow_step m next)
follow_moves m (pointers.At next) = turn_moves m next m.ahead
follow_moves m pointers.Null = sends (wait_step m) (either m.doorbell (reread_step m) (quiet, record m { phase = phases.Suspended }) (tt, (tt, refl)) (tt, (tt, tt)))

orb_moves : (m : Machine) (bytes : Result (List ℕ) FailCause) → Moves (orb_read m bytes)
orb_moves m (Err cause) = fails m cause
orb_moves m (Ok bytes) = tt

elements_moves : (m : Machine) (bytes : List ℕ) (fault : Option PageFault) → Moves (elements_read m bytes fault)
elements_moves m bytes None = tt
elements_moves m bytes (Some fault) = (tt, (tt, refl))

aborts : (m : Machine) → Moves (sent (end_step m kinds.Aborted None))
aborts m = (tt, (tt, refl))

table_moves : (m : Machine) (bytes : Result (List ℕ) FailCause) → Moves (table_read m bytes)
table_moves m (Err cause) = fails m cause
table_moves m (Ok bytes) =
    let fault = first_fault 0 (elements_of bytes) in pick m.aborted (sent (end_step m kinds.Aborted None)) (elements_read m bytes fault) (aborts m) (elements_moves m bytes fault)

grows_moves : (m : Machine) (wanted : ℕ) → Moves (data_grown m wanted)
grows_moves m wanted = pick (length m.payload == wanted) (moves.Run, m) (sent (data_step m wanted)) tt (data_reads m wanted)

data_moves : (m : Machine) (wanted : ℕ) (bytes : Result (List ℕ) FailCause) → Moves (data_read m wanted bytes)
data_moves m wanted (Err cause) = fails m cause
data_moves m wanted (Ok bytes) =
    let n = record m { payload = m.payload ++ bytes } in pick m.aborted (sent (end_step m kinds.Aborted None)) (data_grown n wanted) (aborts m) (grows_moves n wanted)

grown_moves : (m : Machine) → Moves (answer_grown m)
grown_moves m = sends (cond (m.written == length m.answer) (end_step m kinds.Good None) (answer_step m)) (either (m.written == length m.answer) (end_step m kinds.Good None) (answer_step m) (ends m kinds.Good None) (answers m))

chunk_moves : (m : Machine) (failure : Option FailCause) → Moves (chunk_written m failure)
chunk_moves m (Some cause) = fails m cause
chunk_moves m None = grown_moves (record m { written = m.written + answer_chunk m })

written_moves : (m : Machine) (failure : Option FailCause) → Moves (status_written m failure)
written_moves m (Some cause) = dead m cause
written_moves m None = follow_moves m m.orb.next

next_moves : (m : Machine) (bytes : Result (List ℕ) FailCause) → Moves (next_read m bytes)
next_moves m (Err cause) = dead m cause
next_moves m (Ok bytes) = follow_moves (record m { orb = record m.orb { next = pointer_at bytes 0 } }) (pointer_at bytes 0)

advanced_moves : (phase : Phase) (m : Machine) (answer : Answer) → Moves (advanced phase m answer)
advanced_moves phases.Reset m answer = nothing m
advanced_moves phases.Fetching m answer = orb_moves m (payload_of answer 32)
advanced_moves phases.ReadingTable m answer = table_moves m (payload_of answer (8 * m.orb.data_size))
advanced_moves (phases.ReadingData wanted) m answer = data_moves m wanted (payload_of answer (chunk_of m (length m.payload) wanted).length)
advanced_moves phases.Answering m answer = chunk_moves m (write_failure answer)
advanced_moves phases.WritingStatus m answer = written_moves m (write_failure answer)
advanced_moves phases.ReadingNext m answer = next_moves m (payload_of answer 8)
advanced_moves phases.WritingLastStatus m answer = nothing (record m { phase = phases.Dead })
advanced_moves phases.Suspended m answer = nothing m
advanced_moves phases.Dead m answer = nothing m

served_shaped : (place : ℕ) (plain : PlainDisk) (run : Told) (r : Move × Machine) → Moves r → Steps (served place plain run r.0 r.1)
served_shaped place plain run (moves.Send step, m) h = h
served_shaped place plain run (moves.Check, m) h = let s = check_step m place plain run in ahead_shaped s.0.dead s.1.orb.next s (check_shaped m place plain run)
served_shaped place plain run (moves.Judge, m) h = judge_shaped m place plain run
served_shaped place plain run (moves.Run, m) h = run_shaped m run

-- ---- a reply to the read ahead
ahead_read_shaped : (m : Machine) (bytes : Result (List ℕ) FailCause) → Steps (ahead_read m bytes)
ahead_read_shaped m (Ok bytes) = (tt, (tt, tt))
ahead_read_shaped m (Err cause) = (tt, (tt, tt))

pub reply_shaped : (m : Machine) (place : ℕ) (plain : PlainDisk) (run : Option Told) (which : Which) (answer : Answer) → (let s = reply_step m place plain run which answer in IsShapedStep (s.0, s.1))
unfolding reply_step
reply_shaped m place plain run Main answer = served_shaped place plain (told_or run) (advanced m.phase m answer) (advanced_moves m.phase m answer)
reply_shaped m place plain run Ahead answer = either (is_ahead m.ahead) (ahead_step m answer) (quiet, m) (ahead_read_shaped m (payload_of answer 32)) (nothing m)

-- ---- a transaction that failed
main_lost_shaped : (phase : Phase) (m : Machine) (cause : FailCause) → Steps (main_lost phase m cause)
main_lost_shaped phases.Reset m cause = nothing m
main_lost_shaped phases.Fetching m cause = fails m cause
main_lost_shaped phases.ReadingTable m cause = fails m cause
main_lost_shaped (phases.ReadingData wanted) m cause = fails m cause
main_lost_shaped phases.Answering m cause = fails m cause
main_lost_shaped phases.WritingStatus m cause = dead m cause
main_lost_shaped phases.ReadingNext m cause = dead m cause
main_lost_shaped phases.WritingLastStatus m cause = nothing (record m { phase = phases.Dead })
main_lost_shaped phases.Suspended m cause = nothing m
main_lost_shaped phases.Dead m cause = nothing m

pub lost_shaped : (m : Machine) (which : Which) (cause : FailCause) → (let s = lost_step m which cause in IsShapedStep (s.0, s.1))
unfolding lost_step
lost_shaped m Main cause = main_lost_shaped m.phase m cause
lost_shaped m Ahead cause = either (is_ahead m.ahead) (ahead_lost m cause) (quiet, m) (tt, (tt, tt)) (nothing m)

-- ---- a request that finds no label was asked for
module _ (finds : Body → Bool) (step : AgentStep) (m : Machine) (fin : Bool) (fifo : ℕ) (outgoing : List ℕ) where
  abbrev missed : Ask → Bool
  missed ask = found_by finds (agent_body ask fin fifo outgoing)

  pub mute_of : (ended : Option StatusKind) (dead : Option FailCause) (ask : Ask) → IsMute ended dead ask → missed ask ≡ false → ended ≡ None → dead ≡ None
  mute_of None None ask h e f = refl
  mute_of None (Some cause) Nothing h e f = absurd (let no : true ≡ false = e in cc)
  mute_of None (Some cause) (Read offset len) h e f = absurd h
  mute_of None (Some cause) (Write offset len) h e f = absurd h
  mute_of (Some kind) dead ask h e f = absurd (let no : Some kind ≡ None = f in cc)

  pub sent_of : (ended : Option StatusKind) (ask : Ask) (phase : Phase) → IsUnderWay ended ask phase → missed ask ≡ false → is_sent phase ≡ true
  sent_of ended Nothing phase h e = absurd (let no : true ≡ false = e in cc)
  sent_of ended (Read offset len) phase h e = h
  sent_of (Some kind) (Write offset len) phase h e = h
  sent_of None (Write offset len) phase h e = h.0
