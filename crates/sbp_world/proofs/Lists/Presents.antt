-- An agent that tells of a run or of an end has a present ORB, the one that it tells of.
use Rattle.sbp_world.proofs.Words.Std.{◌≡◌, refl, ◌||◌, ◌==◌, ◌+◌, ◌*◌, ℕ, is_some, Bool, true, false, cond, List, ◌++◌, length, Option, Some, None, Result, Ok, Err, false≢true}
use Rattle.sbp_world.proofs.Words.Target.{Need, Outcome, Told, need_of, PlainDisk, Phase, ReadAhead, AgentStep, Move, Which, Main, Ahead, death_by, reads_table, verdict, Machine, chunk_of, has_present, is_ahead, plan_of, advanced, ahead_lost, ahead_of, ahead_read, ahead_step, answer_chunk, check_step, checked, chunk_written, data_grown, data_read, data_step, elements_read, end_step, follow_step, judge_step, judged, lost_step, main_lost, next_read, orb_read, passed_step, quiet, ran_as, reply_step, reread_step, run_step, sent, served, table_read, told_or, turn_step, unread_buffer, wait_step}
use Rattle.sbp_world.proofs.Words.Initiator.{FailCause, OrbPointer, Null, At, StatusKind, pointer_at, Answer, payload_of, write_failure, PageFault, elements_of, first_fault}
use Rattle.orb_layout.specs.declared.ask.FailCause.TheVariants as causes
use Rattle.orb_layout.specs.declared.status.StatusKind.TheVariants as kinds
use Rattle.rbc_disk.specs.declared.command.Need.TheVariants as needs
use Rattle.rbc_disk.specs.declared.command.Outcome.TheVariants as outcomes
use Rattle.command_agent.specs.declared.phase.Phase.TheVariants as phases
use Rattle.command_agent.specs.declared.phase.ReadAhead.TheVariants as aheads
use Rattle.command_agent.specs.declared.step.Move.TheVariants as moves
use Rattle.command_agent.specs.Steps.{answer_step, status_written}
use Rattle.sbp_world.proofs.Lists.StatusSteps.{end_has}

-- where something is told of the present ORB there is one
abbrev pub Presents : AgentStep × Machine → Type 0
Presents s = is_some s.0.ran || is_some s.0.ended ≡ true → has_present s.1.phase ≡ true

abbrev MovePresents : Move × Machine → Type 0
MovePresents (moves.Send step, m) = Presents (step, m)
MovePresents (moves.Check, m) = Unit {0}
MovePresents (moves.Judge, m) = Unit {0}
MovePresents (moves.Run, m) = Unit {0}

pick : (b : Bool) (x y : Move × Machine) → MovePresents x → MovePresents y → MovePresents (cond b x y)
pick true x y h i = h
pick false x y h i = i

pick_step : (b : Bool) (x y : AgentStep × Machine) → Presents x → Presents y → Presents (cond b x y)
pick_step true x y h i = h
pick_step false x y h i = i

-- ---- ends

ends : (m : Machine) (kind : StatusKind) (dead : Option FailCause) → Presents (end_step m kind dead)
ends m kind dead = λ e. end_has m kind dead

pick_has : (b : Bool) (x y : AgentStep × Machine) → has_present x.1.phase ≡ true → has_present y.1.phase ≡ true → has_present (cond b x y).1.phase ≡ true
pick_has true x y h i = h
pick_has false x y h i = i

-- ---- runs
ran_has : (m : Machine) (outcome : Outcome) → has_present (ran_as m outcome).1.phase ≡ true
ran_has m (outcomes.Check sense) = end_has m (kinds.Check sense) None
ran_has m (outcomes.Good len) = pick_has (len == 0) (end_step m kinds.Good None) (answer_step m) (end_has m kinds.Good None) refl

runs : (m : Machine) (told : Told) → Presents (run_step m told)
runs m told = λ e. ran_has (record m { answer = told.answer; written = 0 }) told.outcome

judges : (m : Machine) (told : Told) (need : Need) → Presents (judged m told need)
judges m told needs.RunNow = runs m told
judges m told (needs.Payload len) = λ e. refl

passes : (m : Machine) (place : ℕ) (plain : PlainDisk) (told : Told) → Presents (passed_step m place plain told)
passes m place plain told =
    let n = record m { segments = unread_buffer m.orb } in
    pick_step (reads_table m.orb) (_, record m { phase = phases.ReadingTable }) (judge_step n place plain told) (λ e. refl) (judges n told (need_of n.orb.cdb (plan_of n) plain place))

checks : (m : Machine) (place : ℕ) (plain : PlainDisk) (told : Told) (verdict : Option StatusKind) → Presents (checked m place plain told verdict)
checks m place plain told (Some kind) = ends m kind (death_by kind)
checks m place plain told None = passes m place plain told

aheads_by : (dead : Option FailCause) (next : OrbPointer) (s : AgentStep × Machine) → Presents s → Presents (ahead_of dead next s)
aheads_by None (At next) s h = h
aheads_by None Null s h = h
aheads_by (Some cause) next s h = h

-- ---- replies
turns : (m : Machine) (next : ℕ) (ahead : ReadAhead) → MovePresents (turn_step m next ahead)
turns m next aheads.Idle = λ e. absurd (false≢true e)
turns m next (aheads.UnderWay rung) = λ e. absurd (false≢true e)
turns m next (aheads.Kept orb) = tt

waits : (m : Machine) → Presents (wait_step m)
waits m = pick_step m.doorbell (reread_step m) (quiet, record m { phase = phases.Suspended }) (λ e. absurd (false≢true e)) (λ e. absurd (false≢true e))

follows : (m : Machine) (next : OrbPointer) → MovePresents (follow_step m next)
follows m (At next) = turns m next m.ahead
follows m Null = waits m

statuses : (m : Machine) (failure : Option FailCause) → MovePresents (status_written m failure)
statuses m (Some cause) = λ e. absurd (false≢true e)
statuses m None = follows m m.orb.next

nexts : (m : Machine) (r : Result (List ℕ) FailCause) → MovePresents (next_read m r)
nexts m (Err cause) = λ e. absurd (false≢true e)
nexts m (Ok bytes) = follows (record m { orb = record m.orb { next = pointer_at bytes 0 } }) (pointer_at bytes 0)

orbs_read : (m : Machine) (r : Result (List ℕ) FailCause) → MovePresents (orb_read m r)
orbs_read m (Err cause) = ends m kinds.Failed (Some cause)
orbs_read m (Ok bytes) = tt

elements : (m : Machine) (bytes : List ℕ) (fault : Option PageFault) → MovePresents (elements_read m bytes fault)
elements m bytes (Some fault) = ends m (kinds.Illegal 0xff) (Some causes.Grammar)
elements m bytes None = tt

tables : (m : Machine) (r : Result (List ℕ) FailCause) → MovePresents (table_read m r)
tables m (Err cause) = ends m kinds.Failed (Some cause)
tables m (Ok bytes) =
    pick m.aborted (sent (end_step m kinds.Aborted None)) (elements_read m bytes (first_fault 0 (elements_of bytes))) (ends m kinds.Aborted None) (elements m bytes (first_fault 0 (elements_of bytes)))

grows : (m : Machine) (wanted : ℕ) → MovePresents (data_grown m wanted)
grows m wanted = pick (length m.payload == wanted) (moves.Run, m) (sent (data_step m wanted)) tt (λ e. refl)

data_reads : (m : Machine) (wanted : ℕ) (r : Result (List ℕ) FailCause) → MovePresents (data_read m wanted r)
data_reads m wanted (Err cause) = ends m kinds.Failed (Some cause)
data_reads m wanted (Ok bytes) =
    let n = record m { payload = m.payload ++ bytes } in
    pick m.aborted (sent (end_step m kinds.Aborted None)) (data_grown n wanted) (ends m kinds.Aborted None) (grows n wanted)

answers : (m : Machine) → Presents (cond (m.written == length m.answer) (end_step m kinds.Good None) (answer_step m))
answers m = pick_step (m.written == length m.answer) (end_step m kinds.Good None) (answer_step m) (ends m kinds.Good None) (λ e. refl)

chunks : (m : Machine) (failure : Option FailCause) → MovePresents (chunk_written m failure)
chunks m (Some cause) = ends m kinds.Failed (Some cause)
chunks m None = answers (record m { written = m.written + answer_chunk m })

moves_on : (phase : Phase) (m : Machine) (answer : Answer) → MovePresents (advanced phase m answer)
moves_on phases.Fetching m answer = orbs_read m (payload_of answer 32)
moves_on phases.ReadingTable m answer = tables m (payload_of answer (8 * m.orb.data_size))
moves_on (phases.ReadingData wanted) m answer = data_reads m wanted (payload_of answer (chunk_of m (length m.payload) wanted).length)
moves_on phases.Answering m answer = chunks m (write_failure answer)
moves_on phases.WritingStatus m answer = statuses m (write_failure answer)
moves_on phases.ReadingNext m answer = nexts m (payload_of answer 8)
moves_on phases.WritingLastStatus m answer = λ e. absurd (false≢true e)
moves_on phases.Reset m answer = λ e. absurd (false≢true e)
moves_on phases.Suspended m answer = λ e. absurd (false≢true e)
moves_on phases.Dead m answer = λ e. absurd (false≢true e)

serves : (place : ℕ) (plain : PlainDisk) (told : Told) (move : Move) (m : Machine) → MovePresents (move, m) → Presents (served place plain told move m)
serves place plain told (moves.Send step) m h = h
serves place plain told moves.Check m h =
    let s = check_step m place plain told in aheads_by s.0.dead s.1.orb.next s (checks m place plain told (verdict m.orb m.aborted))
serves place plain told moves.Judge m h = judges m told (need_of m.orb.cdb (plan_of m) plain place)
serves place plain told moves.Run m h = runs m told

ahead_reads : (m : Machine) (r : Result (List ℕ) FailCause) → Presents (ahead_read m r)
ahead_reads m (Ok bytes) = λ e. absurd (false≢true e)
ahead_reads m (Err cause) = λ e. absurd (false≢true e)

pub replied_presents : (m : Machine) (place : ℕ) (plain : PlainDisk) (told : Option Told) (which : Which) (answer : Answer) → Presents (reply_step m place plain told which answer)
unfolding reply_step
replied_presents m place plain told Main answer =
    let a = advanced m.phase m answer in serves place plain (told_or told) a.0 a.1 (moves_on m.phase m answer)
replied_presents m place plain told Ahead answer =
    pick_step (is_ahead m.ahead) (ahead_step m answer) (quiet, m) (ahead_reads m (payload_of answer 32)) (λ e. absurd (false≢true e))

-- ---- losses
loses : (phase : Phase) (m : Machine) (cause : FailCause) → Presents (main_lost phase m cause)
loses phases.Fetching m cause = ends m kinds.Failed (Some cause)
loses phases.ReadingTable m cause = ends m kinds.Failed (Some cause)
loses (phases.ReadingData wanted) m cause = ends m kinds.Failed (Some cause)
loses phases.Answering m cause = ends m kinds.Failed (Some cause)
loses phases.WritingStatus m cause = λ e. absurd (false≢true e)
loses phases.ReadingNext m cause = λ e. absurd (false≢true e)
loses phases.WritingLastStatus m cause = λ e. absurd (false≢true e)
loses phases.Reset m cause = λ e. absurd (false≢true e)
loses phases.Suspended m cause = λ e. absurd (false≢true e)
loses phases.Dead m cause = λ e. absurd (false≢true e)

pub lost_presents : (m : Machine) (which : Which) (cause : FailCause) → Presents (lost_step m which cause)
unfolding lost_step
lost_presents m Main cause = loses m.phase m cause
lost_presents m Ahead cause = pick_step (is_ahead m.ahead) (ahead_lost m cause) (quiet, m) (λ e. absurd (false≢true e)) (λ e. absurd (false≢true e))
