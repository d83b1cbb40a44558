-- What a step of an agent tells: a check has a sense key of four bits, and no ORB ends with a status of management.
use Rattle.sbp_world.proofs.Words.Std.{◌≡◌, refl, subst, ℕ, ◌+◌, ◌*◌, ◌^◌, ◌==◌, ◌&&◌, not, nat_lt, Bool, true, false, cond, List, ◌++◌, length, Option, Some, None, Result, Ok, Err}
use Rattle.sbp_world.proofs.Words.Wire.{IsCheck, IsStatus}
use Rattle.sbp_world.proofs.Words.Target.{Need, Outcome, PlainDisk, check_in, need_of, Told, Phase, ReadAhead, AgentStep, Move, Which, Main, Ahead, refusal, verdict, reads_table, Machine, is_ahead, plan_of, chunk_of, MayTell, quiet, asks, end_step, turn_step, reread_step, wait_step, follow_step, sent, next_read, orb_read, elements_read, table_read, data_step, data_grown, data_read, answer_chunk, answer_grown, chunk_written, advanced, with_outcome, ran_as, run_step, judged, judge_step, unread_buffer, passed_step, checked, check_step, ahead_of, served, ahead_lost, ahead_read, ahead_step, told_or, reply_step, main_lost, lost, lost_step}
use Rattle.sbp_world.proofs.Words.Initiator.{FailCause, CommandOrb, OrbPointer, Null, At, StatusKind, Answer, payload_of, write_failure, pointer_at, PageFault, elements_of, first_fault, Read}
use Rattle.rbc_disk.specs.declared.command.Need.TheVariants as needs
use Rattle.rbc_disk.specs.declared.command.Outcome.TheVariants as outcomes
use Rattle.rbc_disk.proofs.KeyLemmas.{run_key}
use Rattle.orb_layout.specs.declared.status.StatusKind.TheVariants as kinds
use Rattle.command_agent.specs.declared.phase.Phase.TheVariants as phases
use Rattle.command_agent.specs.declared.phase.ReadAhead.TheVariants as aheads
use Rattle.command_agent.specs.declared.step.Move.TheVariants as moves
use Rattle.command_agent.specs.Steps.{status_written, answer_step, replied}

-- ---- what is wanted of a step

abbrev pub FitsRun : Option Outcome → Type 0
FitsRun None = Unit {0}
FitsRun (Some outcome) = IsCheck (check_in outcome)

abbrev pub FitsEnd : Option StatusKind → Type 0
FitsEnd None = Unit {0}
FitsEnd (Some status) = IsStatus status

abbrev pub IsFit : AgentStep → Type 0
IsFit step = FitsRun step.ran × FitsEnd step.ended

-- ---- a loss

main_lost_fits : (phase : Phase) (m : Machine) (cause : FailCause) → IsFit (main_lost phase m cause).0
main_lost_fits phases.Reset m cause = (tt, tt)
main_lost_fits phases.Fetching m cause = (tt, tt)
main_lost_fits phases.ReadingTable m cause = (tt, tt)
main_lost_fits (phases.ReadingData wanted) m cause = (tt, tt)
main_lost_fits phases.Answering m cause = (tt, tt)
main_lost_fits phases.WritingStatus m cause = (tt, tt)
main_lost_fits phases.ReadingNext m cause = (tt, tt)
main_lost_fits phases.WritingLastStatus m cause = (tt, tt)
main_lost_fits phases.Suspended m cause = (tt, tt)
main_lost_fits phases.Dead m cause = (tt, tt)

fits_if : (b : Bool) (x y : AgentStep × Machine) → IsFit x.0 → IsFit y.0 → IsFit (cond b x y).0
fits_if true x y h i = h
fits_if false x y h i = i

lost_by : (m : Machine) (which : Which) (cause : FailCause) → IsFit (lost m which cause).0
lost_by m Main cause = main_lost_fits m.phase m cause
lost_by m Ahead cause = fits_if (is_ahead m.ahead) (ahead_lost m cause) (quiet, m) (tt, tt) (tt, tt)

pub lost_fits : (m : Machine) (which : Which) (cause : FailCause) → IsFit (lost_step m which cause).0
unfolding lost_step
lost_fits m which cause = lost_by m which cause

-- ---- a reply: a check that an ORB ends with is that of its run

abbrev pub EndsAs : StatusKind → Option Outcome → Type 0
EndsAs (kinds.Check sense) ran = ran ≡ Some (outcomes.Check sense)
EndsAs (kinds.Management meaning) ran = ⊥
EndsAs _ ran = Unit {0}

abbrev pub Ends : Option StatusKind → Option Outcome → Type 0
Ends None ran = Unit {0}
Ends (Some kind) ran = EndsAs kind ran

abbrev pub Suits : AgentStep → Type 0
Suits step = Ends step.ended step.ran

abbrev SentWell : Move → Type 0
SentWell (moves.Send step) = Suits step
SentWell moves.Check = Unit {0}
SentWell moves.Judge = Unit {0}
SentWell moves.Run = Unit {0}

suits_if : (b : Bool) (x y : AgentStep × Machine) → Suits x.0 → Suits y.0 → Suits (cond b x y).0
suits_if true x y h i = h
suits_if false x y h i = i

sends_if : (b : Bool) (x y : Move × Machine) → SentWell x.0 → SentWell y.0 → SentWell (cond b x y).0
sends_if true x y h i = h
sends_if false x y h i = i

orb_well : (m : Machine) (r : Result (List ℕ) FailCause) → SentWell (orb_read m r).0
orb_well m (Err cause) = tt
orb_well m (Ok bytes) = tt

elements_well : (m : Machine) (bytes : List ℕ) (fault : Option PageFault) → SentWell (elements_read m bytes fault).0
elements_well m bytes (Some fault) = tt
elements_well m bytes None = tt

table_well : (m : Machine) (r : Result (List ℕ) FailCause) → SentWell (table_read m r).0
table_well m (Err cause) = tt
table_well m (Ok bytes) =
    sends_if m.aborted (sent (end_step m kinds.Aborted None)) (elements_read m bytes (first_fault 0 (elements_of bytes))) tt
    (elements_well m bytes (first_fault 0 (elements_of bytes)))

grown_well : (m : Machine) (wanted : ℕ) → SentWell (data_grown m wanted).0
grown_well m wanted = sends_if (length m.payload == wanted) (moves.Run, m) (sent (data_step m wanted)) tt tt

data_well : (m : Machine) (wanted : ℕ) (r : Result (List ℕ) FailCause) → SentWell (data_read m wanted r).0
data_well m wanted (Err cause) = tt
data_well m wanted (Ok bytes) =
    let n = record m { payload = m.payload ++ bytes } in
    sends_if m.aborted (sent (end_step m kinds.Aborted None)) (data_grown n wanted) tt (grown_well n wanted)

answer_well : (m : Machine) → SentWell (answer_grown m).0
answer_well m = suits_if (m.written == length m.answer) (end_step m kinds.Good None) (answer_step m) tt tt

chunk_well : (m : Machine) (cause : Option FailCause) → SentWell (chunk_written m cause).0
chunk_well m (Some cause) = tt
chunk_well m None = answer_well (record m { written = m.written + answer_chunk m })

turn_well : (m : Machine) (next : ℕ) (ahead : ReadAhead) → SentWell (turn_step m next ahead).0
turn_well m next aheads.Idle = tt
turn_well m next (aheads.UnderWay rung) = tt
turn_well m next (aheads.Kept orb) = tt

wait_well : (m : Machine) → Suits (wait_step m).0
wait_well m = suits_if m.doorbell (reread_step m) (quiet, record m { phase = phases.Suspended }) tt tt

follow_well : (m : Machine) (next : OrbPointer) → SentWell (follow_step m next).0
follow_well m (At next) = turn_well m next m.ahead
follow_well m Null = wait_well m

status_well : (m : Machine) (cause : Option FailCause) → SentWell (status_written m cause).0
status_well m (Some cause) = tt
status_well m None = follow_well m m.orb.next

next_well : (m : Machine) (r : Result (List ℕ) FailCause) → SentWell (next_read m r).0
next_well m (Err cause) = tt
next_well m (Ok bytes) = follow_well (record m { orb = record m.orb { next = pointer_at bytes 0 } }) (pointer_at bytes 0)

advanced_well : (phase : Phase) (m : Machine) (answer : Answer) → SentWell (advanced phase m answer).0
advanced_well phases.Reset m answer = tt
advanced_well phases.Fetching m answer = orb_well m (payload_of answer 32)
advanced_well phases.ReadingTable m answer = table_well m (payload_of answer (8 * m.orb.data_size))
advanced_well (phases.ReadingData wanted) m answer = data_well m wanted (payload_of answer (chunk_of m (length m.payload) wanted).length)
advanced_well phases.Answering m answer = chunk_well m (write_failure answer)
advanced_well phases.WritingStatus m answer = status_well m (write_failure answer)
advanced_well phases.ReadingNext m answer = next_well m (payload_of answer 8)
advanced_well phases.WritingLastStatus m answer = tt
advanced_well phases.Suspended m answer = tt
advanced_well phases.Dead m answer = tt

-- the run and the checks
good_well : (b : Bool) (m : Machine) (len : ℕ) → Suits (with_outcome (outcomes.Good len) (cond b (end_step m kinds.Good None) (answer_step m))).0
good_well true m len = tt
good_well false m len = tt

ran_well : (m : Machine) (outcome : Outcome) → Suits (with_outcome outcome (ran_as m outcome)).0
ran_well m (outcomes.Check sense) = refl
ran_well m (outcomes.Good len) = good_well (len == 0) m len

run_well : (m : Machine) (told : Told) → Suits (run_step m told).0
run_well m told = ran_well (record m { answer = told.answer; written = 0 }) told.outcome

judged_well : (m : Machine) (told : Told) (need : Need) → Suits (judged m told need).0
judged_well m told needs.RunNow = run_well m told
judged_well m told (needs.Payload len) = tt

judge_well : (m : Machine) (place : ℕ) (plain : PlainDisk) (told : Told) → Suits (judge_step m place plain told).0
judge_well m place plain told = judged_well m told (need_of m.orb.cdb (plan_of m) plain place)

passed_well : (m : Machine) (place : ℕ) (plain : PlainDisk) (told : Told) → Suits (passed_step m place plain told).0
passed_well m place plain told =
    let n = record m { segments = unread_buffer m.orb } in
    suits_if (reads_table m.orb) (asks (Read m.orb.descriptor (8 * m.orb.data_size)), record m { phase = phases.ReadingTable }) (judge_step n place plain told) tt (judge_well n place plain told)

record Checked (kind : Option StatusKind) : Type 0 where
  ends : Ends kind None

checked_if : (b : Bool) (x y : Option StatusKind) → Checked x → Checked y → Checked (cond b x y)
checked_if true x y h i = h
checked_if false x y h i = i

refusal_well : (orb : CommandOrb) → Checked (refusal orb)
unfolding refusal
refusal_well orb =
    checked_if (nat_lt 2 orb.speed) (Some (kinds.Illegal 0x02)) _ (record { ends = tt })
    (checked_if (nat_lt (7 + orb.speed) orb.max_payload) (Some (kinds.Illegal 0xff)) _ (record { ends = tt })
    (checked_if (orb.has_table && not (orb.page_size == 0)) (Some (kinds.Illegal 0x03)) _ (record { ends = tt })
    (checked_if (orb.has_table && nat_lt 64 orb.data_size) (Some (kinds.Illegal 0xff)) _ (record { ends = tt })
    (checked_if (not orb.has_table && nat_lt (2 ^ 48) (orb.descriptor + orb.data_size)) (Some (kinds.Illegal 0xff)) None (record { ends = tt }) (record { ends = tt })))))

verdict_well : (orb : CommandOrb) (aborted : Bool) → Checked (verdict orb aborted)
unfolding verdict
verdict_well orb aborted =
    checked_if (orb.format == 3) (Some kinds.Dummy) _ (record { ends = tt })
    (checked_if (not (orb.format == 0)) (Some (kinds.Illegal 0x01)) _ (record { ends = tt })
    (checked_if aborted (Some kinds.Aborted) (refusal orb) (record { ends = tt }) (refusal_well orb)))

checked_well : (m : Machine) (place : ℕ) (plain : PlainDisk) (told : Told) (kind : Option StatusKind) → Ends kind None → Suits (checked m place plain told kind).0
checked_well m place plain told (Some kind) h = h
checked_well m place plain told None h = passed_well m place plain told

pub check_well : (m : Machine) (place : ℕ) (plain : PlainDisk) (told : Told) → Suits (check_step m place plain told).0
check_well m place plain told = checked_well m place plain told (verdict m.orb m.aborted) (verdict_well m.orb m.aborted).ends

ahead_well : (dead : Option FailCause) (next : OrbPointer) (s : AgentStep × Machine) → Suits s.0 → Suits (ahead_of dead next s).0
ahead_well None (At next) s h = h
ahead_well None Null s h = h
ahead_well (Some cause) (At next) s h = h
ahead_well (Some cause) Null s h = h

served_well : (place : ℕ) (plain : PlainDisk) (told : Told) (move : Move) (m : Machine) → SentWell move → Suits (served place plain told move m).0
served_well place plain told (moves.Send step) m h = h
served_well place plain told moves.Check m h =
    let s = check_step m place plain told in ahead_well s.0.dead s.1.orb.next s (check_well m place plain told)
served_well place plain told moves.Judge m h = judge_well m place plain told
served_well place plain told moves.Run m h = run_well m told

ahead_read_well : (m : Machine) (r : Result (List ℕ) FailCause) → Suits (ahead_read m r).0
ahead_read_well m (Ok bytes) = tt
ahead_read_well m (Err cause) = tt

replied_well : (m : Machine) (place : ℕ) (plain : PlainDisk) (told : Told) (which : Which) (answer : Answer) → Suits (replied m place plain told which answer).0
replied_well m place plain told Main answer =
    let a = advanced m.phase m answer in served_well place plain told a.0 a.1 (advanced_well m.phase m answer)
replied_well m place plain told Ahead answer =
    suits_if (is_ahead m.ahead) (ahead_step m answer) (quiet, m) (ahead_read_well m (payload_of answer 32)) tt

pub reply_well : (m : Machine) (place : ℕ) (plain : PlainDisk) (told : Option Told) (which : Which) (answer : Answer) → Suits (reply_step m place plain told which answer).0
unfolding reply_step
reply_well m place plain told which answer = replied_well m place plain (told_or told) which answer

-- what may be told of a run
pub run_fits : (ran : Option Outcome) (m : Machine) (place : ℕ) (plain : PlainDisk) → MayTell ran m place plain → FitsRun ran
run_fits None m place plain h = tt
run_fits (Some (outcomes.Good len)) m place plain h = tt
run_fits (Some (outcomes.Check sense)) m place plain h = run_key m.orb.cdb (plan_of m) plain place sense h.ended

end_as : (kind : StatusKind) (ran : Option Outcome) → EndsAs kind ran → FitsRun ran → IsStatus kind
end_as (kinds.Check sense) ran e f = subst FitsRun e f
end_as (kinds.Management meaning) ran e f = e
end_as kinds.Good ran e f = tt
end_as kinds.Dummy ran e f = tt
end_as kinds.Aborted ran e f = tt
end_as (kinds.Illegal meaning) ran e f = tt
end_as kinds.Failed ran e f = tt

pub end_fits : (kind : Option StatusKind) (ran : Option Outcome) → Ends kind ran → FitsRun ran → FitsEnd kind
end_fits None ran e f = tt
end_fits (Some kind) ran e f = end_as kind ran e f

pub step_fits : (step : AgentStep) (m : Machine) (place : ℕ) (plain : PlainDisk) → Suits step → MayTell step.ran m place plain → IsFit step
step_fits step m place plain h may =
    let ran = run_fits step.ran m place plain may in (ran, end_fits step.ended step.ran h ran)

pub reply_fits : (m : Machine) (place : ℕ) (plain : PlainDisk) (told : Option Told) (which : Which) (answer : Answer) → MayTell (reply_step m place plain told which answer).0.ran (reply_step m place plain told which answer).1 place plain → IsFit (reply_step m place plain told which answer).0
reply_fits m place plain told which answer may =
    let r = reply_step m place plain told which answer in
    step_fits r.0 r.1 place plain (reply_well m place plain told which answer) may
