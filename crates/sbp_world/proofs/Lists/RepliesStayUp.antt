-- No reply to an agent, and no loss, puts it into RESET: from any other state it goes on to another one (NCITS 325-1998, AGENT_STATE).
use Rattle.sbp_world.proofs.Words.Std.{◌≡◌, refl, ◌==◌, ◌+◌, ◌*◌, ◌++◌, not, ℕ, Bool, true, false, cond, List, length, Option, Some, None, Result, Ok, Err}
use Rattle.sbp_world.proofs.Words.Target.{Phase, ReadAhead, AgentStep, Move, Which, Ahead, Main, death_by, reads_table, verdict, Machine, chunk_of, is_ahead, plan_of, state_in, is_reset, quiet, told_or, Need, Outcome, Told, need_of, PlainDisk}
use Rattle.sbp_world.proofs.Words.Initiator.{FailCause, OrbPointer, At, Null, StatusKind, Read, pointer_at, Answer, payload_of, write_failure, PageFault, elements_of, first_fault}
use Rattle.command_agent.specs.declared.phase.Phase.TheVariants as phases
use Rattle.command_agent.specs.declared.phase.ReadAhead.TheVariants as aheads
use Rattle.command_agent.specs.declared.step.Move.TheVariants as moves
use Rattle.command_agent.specs.Steps as steps
use Rattle.orb_layout.specs.declared.status.StatusKind.TheVariants as kinds
use Rattle.rbc_disk.specs.declared.command.Need.TheVariants as needs
use Rattle.rbc_disk.specs.declared.command.Outcome.TheVariants as outcomes
use Rattle.sbp_world.proofs.Lists.OpenCuts.{is_up}
use Rattle.sbp_world.proofs.Common.{untrue}

-- ---- steps
abbrev Up : AgentStep × Machine → Type 0
Up s = is_up s.1 ≡ true

abbrev MoveUp : Move × Machine → Type 0
MoveUp (moves.Send step, m) = is_up m ≡ true
MoveUp (moves.Check, m) = Unit {0}
MoveUp (moves.Judge, m) = Unit {0}
MoveUp (moves.Run, m) = Unit {0}

ended_up : (m : Machine) (kind : StatusKind) (dead : Option FailCause) → Up (steps.end_step m kind dead)
ended_up m kind None = refl
ended_up m kind (Some cause) = refl

ran_up : (m : Machine) (outcome : Outcome) → Up (steps.ran_as m outcome)
ran_up m (outcomes.Check sense) = refl
ran_up m (outcomes.Good len) = by (len == 0)
  where
    by : (b : Bool) → Up (cond b (steps.end_step m kinds.Good None) (steps.answer_step m))
    by true = refl
    by false = refl

judged_up : (m : Machine) (told : Told) (need : Need) → Up (steps.judged m told need)
judged_up m told needs.RunNow = ran_up (record m { answer = told.answer; written = 0 }) told.outcome
judged_up m told (needs.Payload len) = refl

passed_up : (m : Machine) (place : ℕ) (plain : PlainDisk) (told : Told) → Up (steps.passed_step m place plain told)
passed_up m place plain told = by (reads_table m.orb)
  where
    n : Machine
    n = record m { segments = steps.unread_buffer m.orb }

    by : (b : Bool) → Up (cond b (steps.asks (Read m.orb.descriptor (8 * m.orb.data_size)), record m { phase = phases.ReadingTable }) (steps.judge_step n place plain told))
    by true = refl
    by false = judged_up n told (need_of n.orb.cdb (plan_of n) plain place)

checked_up : (m : Machine) (place : ℕ) (plain : PlainDisk) (told : Told) (kind : Option StatusKind) → Up (steps.checked m place plain told kind)
checked_up m place plain told (Some kind) = ended_up m kind (death_by kind)
checked_up m place plain told None = passed_up m place plain told

ahead_up : (dead : Option FailCause) (next : OrbPointer) (s : AgentStep × Machine) → Up s → Up (steps.ahead_of dead next s)
ahead_up None (At next) s e = e
ahead_up None Null s e = e
ahead_up (Some cause) next s e = e

served_up : (place : ℕ) (plain : PlainDisk) (told : Told) (x : Move × Machine) → MoveUp x → Up (steps.served place plain told x.0 x.1)
served_up place plain told (moves.Send step, m) e = e
served_up place plain told (moves.Check, m) e =
    let s = steps.check_step m place plain told in ahead_up s.0.dead s.1.orb.next s (checked_up m place plain told (verdict m.orb m.aborted))
served_up place plain told (moves.Judge, m) e = judged_up m told (need_of m.orb.cdb (plan_of m) plain place)
served_up place plain told (moves.Run, m) e = ran_up (record m { answer = told.answer; written = 0 }) told.outcome

-- ---- the reply to the main transaction
turn_up : (m : Machine) (next : ℕ) (ahead : ReadAhead) → MoveUp (steps.turn_step m next ahead)
turn_up m next aheads.Idle = refl
turn_up m next (aheads.UnderWay rung) = refl
turn_up m next (aheads.Kept orb) = tt

follow_up : (m : Machine) (next : OrbPointer) → MoveUp (steps.follow_step m next)
follow_up m (At next) = turn_up m next m.ahead
follow_up m Null = by m.doorbell
  where
    by : (b : Bool) → is_up (cond b (steps.reread_step m) (quiet, record m { phase = phases.Suspended })).1 ≡ true
    by true = refl
    by false = refl

orb_up : (m : Machine) (r : Result (List ℕ) FailCause) → MoveUp (steps.orb_read m r)
orb_up m (Err cause) = refl
orb_up m (Ok bytes) = tt

elements_up : (m : Machine) (bytes : List ℕ) (fault : Option PageFault) → MoveUp (steps.elements_read m bytes fault)
elements_up m bytes (Some fault) = refl
elements_up m bytes None = tt

table_up : (m : Machine) (r : Result (List ℕ) FailCause) → MoveUp (steps.table_read m r)
table_up m (Err cause) = refl
table_up m (Ok bytes) = by m.aborted
  where
    by : (b : Bool) → MoveUp (cond b (steps.sent (steps.end_step m kinds.Aborted None)) (steps.elements_read m bytes (first_fault 0 (elements_of bytes))))
    by true = refl
    by false = elements_up m bytes (first_fault 0 (elements_of bytes))

grown_up : (m : Machine) (wanted : ℕ) → MoveUp (steps.data_grown m wanted)
grown_up m wanted = by (length m.payload == wanted)
  where
    by : (b : Bool) → MoveUp (cond b (moves.Run, m) (steps.sent (steps.data_step m wanted)))
    by true = tt
    by false = refl

data_up : (m : Machine) (wanted : ℕ) (r : Result (List ℕ) FailCause) → MoveUp (steps.data_read m wanted r)
data_up m wanted (Err cause) = refl
data_up m wanted (Ok bytes) = by m.aborted
  where
    n : Machine
    n = record m { payload = m.payload ++ bytes }

    by : (b : Bool) → MoveUp (cond b (steps.sent (steps.end_step m kinds.Aborted None)) (steps.data_grown n wanted))
    by true = refl
    by false = grown_up n wanted

chunk_up : (m : Machine) (failure : Option FailCause) → MoveUp (steps.chunk_written m failure)
chunk_up m (Some cause) = refl
chunk_up m None = by (n.written == length n.answer)
  where
    n : Machine
    n = record m { written = m.written + steps.answer_chunk m }

    by : (b : Bool) → is_up (cond b (steps.end_step n kinds.Good None) (steps.answer_step n)).1 ≡ true
    by true = refl
    by false = refl

status_up : (m : Machine) (failure : Option FailCause) → MoveUp (steps.status_written m failure)
status_up m (Some cause) = refl
status_up m None = follow_up m m.orb.next

next_up : (m : Machine) (r : Result (List ℕ) FailCause) → MoveUp (steps.next_read m r)
next_up m (Err cause) = refl
next_up m (Ok bytes) = follow_up (record m { orb = record m.orb { next = pointer_at bytes 0 } }) (pointer_at bytes 0)

advanced_up : (phase : Phase) (m : Machine) (answer : Answer) → not (is_reset (state_in phase)) ≡ true → is_up m ≡ true → MoveUp (steps.advanced phase m answer)
advanced_up phases.Reset m answer e f = untrue e
advanced_up phases.Dead m answer e f = f
advanced_up phases.Suspended m answer e f = f
advanced_up phases.Fetching m answer e f = orb_up m (payload_of answer 32)
advanced_up phases.ReadingTable m answer e f = table_up m (payload_of answer (8 * m.orb.data_size))
advanced_up (phases.ReadingData wanted) m answer e f = data_up m wanted (payload_of answer (chunk_of m (length m.payload) wanted).length)
advanced_up phases.Answering m answer e f = chunk_up m (write_failure answer)
advanced_up phases.WritingStatus m answer e f = status_up m (write_failure answer)
advanced_up phases.WritingLastStatus m answer e f = refl
advanced_up phases.ReadingNext m answer e f = next_up m (payload_of answer 8)

read_up : (m : Machine) (r : Result (List ℕ) FailCause) → is_up m ≡ true → Up (steps.ahead_read m r)
read_up m (Ok bytes) e = e
read_up m (Err cause) e = e

pub reply_up : (m : Machine) (place : ℕ) (plain : PlainDisk) (told : Option Told) (which : Which) (answer : Answer) → is_up m ≡ true → is_up (steps.reply_step m place plain told which answer).1 ≡ true
unfolding steps.reply_step
reply_up m place plain told Main answer e = served_up place plain (told_or told) (steps.advanced m.phase m answer) (advanced_up m.phase m answer e e)
reply_up m place plain told Ahead answer e = by (is_ahead m.ahead)
  where
    by : (b : Bool) → Up (cond b (steps.ahead_step m answer) (quiet, m))
    by true = read_up m (payload_of answer 32) e
    by false = e

-- ---- a loss
lost_main : (phase : Phase) (m : Machine) (cause : FailCause) → is_up m ≡ true → Up (steps.main_lost phase m cause)
lost_main phases.Reset m cause e = e
lost_main phases.Dead m cause e = e
lost_main phases.Suspended m cause e = e
lost_main phases.Fetching m cause e = refl
lost_main phases.ReadingTable m cause e = refl
lost_main (phases.ReadingData wanted) m cause e = refl
lost_main phases.Answering m cause e = refl
lost_main phases.WritingStatus m cause e = refl
lost_main phases.WritingLastStatus m cause e = refl
lost_main phases.ReadingNext m cause e = refl

pub lost_up : (m : Machine) (which : Which) (cause : FailCause) → is_up m ≡ true → is_up (steps.lost_step m which cause).1 ≡ true
unfolding steps.lost_step
lost_up m Main cause e = lost_main m.phase m cause e
lost_up m Ahead cause e = by (is_ahead m.ahead)
  where
    by : (b : Bool) → Up (cond b (steps.ahead_lost m cause) (quiet, m))
    by true = e
    by false = e
