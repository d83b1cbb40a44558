-- An agent that begins to write an answer in a reply in which a command runs has an answer with bytes to write.
use Rattle.sbp_world.proofs.Words.Std.{arith, ◌≡◌, refl, subst, ◌<◌, ◌==◌, ◌+◌, ℕ, Bool, true, false, cond, List, ◌++◌, length, Option, Some, None, IfSome, Result, Ok, Err, ◌*◌, nat_tests, false≢true}
use Rattle.sbp_world.proofs.Words.Target.{Need, Outcome, Told, answered_length, need_of, PlainDisk, Phase, ReadAhead, AgentStep, Move, Which, Ahead, Main, death_by, reads_table, verdict, Machine, chunk_of, is_ahead, plan_of, advanced, ahead_of, ahead_read, ahead_step, answer_chunk, check_step, checked, chunk_written, data_grown, data_read, data_step, elements_read, end_step, follow_step, judge_step, judged, next_read, orb_read, passed_step, quiet, ran_as, reply_step, reread_step, run_step, sent, served, table_read, told_or, turn_step, unread_buffer, wait_step, with_outcome}
use Rattle.sbp_world.proofs.Words.Initiator.{FailCause, OrbPointer, Null, At, StatusKind, pointer_at, Answer, payload_of, write_failure, PageFault, elements_of, first_fault}
use Rattle.sbp_world.proofs.Words.World.{answers}
use Rattle.orb_layout.specs.declared.ask.FailCause.TheVariants as causes
use Rattle.orb_layout.specs.declared.status.StatusKind.TheVariants as kinds
use Rattle.rbc_disk.specs.declared.command.Need.TheVariants as needs
use Rattle.rbc_disk.specs.declared.command.Outcome.TheVariants as outcomes
use Rattle.command_agent.specs.declared.phase.Phase.TheVariants as phases
use Rattle.command_agent.specs.declared.phase.ReadAhead.TheVariants as aheads
use Rattle.command_agent.specs.declared.step.Move.TheVariants as moves
use Rattle.command_agent.specs.Steps.{answer_step, status_written}

abbrev Begins : AgentStep × Machine → Type 0
Begins s = answers s.1.phase ≡ true → IfSome s.0.ran (λ outcome. 0 < answered_length outcome)

abbrev MoveBegins : Move × Machine → Type 0
MoveBegins (moves.Send step, m) = Begins (step, m)
MoveBegins (moves.Check, m) = Unit {0}
MoveBegins (moves.Judge, m) = Unit {0}
MoveBegins (moves.Run, m) = Unit {0}

pick : (b : Bool) (x y : Move × Machine) → MoveBegins x → MoveBegins y → MoveBegins (cond b x y)
pick true x y h k = h
pick false x y h k = k

pick_step : (b : Bool) (x y : AgentStep × Machine) → Begins x → Begins y → Begins (cond b x y)
pick_step true x y h k = h
pick_step false x y h k = k

ends : (m : Machine) (kind : StatusKind) (dead : Option FailCause) → Begins (end_step m kind dead)
ends m kind None = λ e. absurd (false≢true e)
ends m kind (Some cause) = λ e. absurd (false≢true e)

-- ---- runs
good_begins : (m : Machine) (len : ℕ) (b : Bool) → (len == 0) ≡ b → Begins (with_outcome (outcomes.Good len) (cond b (end_step m kinds.Good None) (answer_step m)))
good_begins m len true e = λ f. absurd (false≢true f)
good_begins m len false e = λ f. let z : 0 < len = grind (arith, nat_tests) in z

outcome_begins : (m : Machine) (outcome : Outcome) → Begins (with_outcome outcome (ran_as m outcome))
outcome_begins m (outcomes.Check sense) = λ e. absurd (false≢true e)
outcome_begins m (outcomes.Good len) = good_begins m len (len == 0) refl

runs : (m : Machine) (told : Told) → Begins (run_step m told)
runs m told = outcome_begins (record m { answer = told.answer; written = 0 }) told.outcome

judges : (m : Machine) (told : Told) (need : Need) → Begins (judged m told need)
judges m told needs.RunNow = runs m told
judges m told (needs.Payload len) = λ e. absurd (false≢true e)

passes : (m : Machine) (place : ℕ) (plain : PlainDisk) (told : Told) → Begins (passed_step m place plain told)
passes m place plain told =
    let n = record m { segments = unread_buffer m.orb } in
    pick_step (reads_table m.orb) (_, record m { phase = phases.ReadingTable }) (judge_step n place plain told) (λ e. absurd (false≢true e)) (judges n told (need_of n.orb.cdb (plan_of n) plain place))

checks : (m : Machine) (place : ℕ) (plain : PlainDisk) (told : Told) (found : Option StatusKind) → Begins (checked m place plain told found)
checks m place plain told (Some kind) = ends m kind (death_by kind)
checks m place plain told None = passes m place plain told

aheads_by : (dead : Option FailCause) (next : OrbPointer) (s : AgentStep × Machine) → Begins s → Begins (ahead_of dead next s)
aheads_by None (At next) s h = h
aheads_by None Null s h = h
aheads_by (Some cause) next s h = h

-- ---- replies
turns : (m : Machine) (next : ℕ) (ahead : ReadAhead) → MoveBegins (turn_step m next ahead)
turns m next aheads.Idle = λ e. tt
turns m next (aheads.UnderWay rung) = λ e. tt
turns m next (aheads.Kept orb) = tt

waits : (m : Machine) → Begins (wait_step m)
waits m = pick_step m.doorbell (reread_step m) (quiet, record m { phase = phases.Suspended }) (λ e. tt) (λ e. tt)

follows : (m : Machine) (next : OrbPointer) → MoveBegins (follow_step m next)
follows m (At next) = turns m next m.ahead
follows m Null = waits m

statuses : (m : Machine) (failure : Option FailCause) → MoveBegins (status_written m failure)
statuses m (Some cause) = λ e. tt
statuses m None = follows m m.orb.next

nexts : (m : Machine) (r : Result (List ℕ) FailCause) → MoveBegins (next_read m r)
nexts m (Err cause) = λ e. tt
nexts m (Ok bytes) = follows (record m { orb = record m.orb { next = pointer_at bytes 0 } }) (pointer_at bytes 0)

orbs_read : (m : Machine) (r : Result (List ℕ) FailCause) → MoveBegins (orb_read m r)
orbs_read m (Err cause) = ends m kinds.Failed (Some cause)
orbs_read m (Ok bytes) = tt

elements : (m : Machine) (bytes : List ℕ) (fault : Option PageFault) → MoveBegins (elements_read m bytes fault)
elements m bytes (Some fault) = ends m (kinds.Illegal 0xff) (Some causes.Grammar)
elements m bytes None = tt

tables : (m : Machine) (r : Result (List ℕ) FailCause) → MoveBegins (table_read m r)
tables m (Err cause) = ends m kinds.Failed (Some cause)
tables m (Ok bytes) =
    pick m.aborted (sent (end_step m kinds.Aborted None)) (elements_read m bytes (first_fault 0 (elements_of bytes))) (ends m kinds.Aborted None) (elements m bytes (first_fault 0 (elements_of bytes)))

grows : (m : Machine) (wanted : ℕ) → MoveBegins (data_grown m wanted)
grows m wanted = pick (length m.payload == wanted) (moves.Run, m) (sent (data_step m wanted)) tt (λ e. tt)

data_reads : (m : Machine) (wanted : ℕ) (r : Result (List ℕ) FailCause) → MoveBegins (data_read m wanted r)
data_reads m wanted (Err cause) = ends m kinds.Failed (Some cause)
data_reads m wanted (Ok bytes) =
    let n = record m { payload = m.payload ++ bytes } in
    pick m.aborted (sent (end_step m kinds.Aborted None)) (data_grown n wanted) (ends m kinds.Aborted None) (grows n wanted)

grown : (m : Machine) → Begins (cond (m.written == length m.answer) (end_step m kinds.Good None) (answer_step m))
grown m = pick_step (m.written == length m.answer) (end_step m kinds.Good None) (answer_step m) (ends m kinds.Good None) (λ e. tt)

chunks : (m : Machine) (failure : Option FailCause) → MoveBegins (chunk_written m failure)
chunks m (Some cause) = ends m kinds.Failed (Some cause)
chunks m None = grown (record m { written = m.written + answer_chunk m })

moves_on : (phase : Phase) (m : Machine) (answer : Answer) → MoveBegins (advanced phase m answer)
moves_on phases.Fetching m answer = orbs_read m (payload_of answer 32)
moves_on phases.ReadingTable m answer = tables m (payload_of answer (8 * m.orb.data_size))
moves_on (phases.ReadingData wanted) m answer = data_reads m wanted (payload_of answer (chunk_of m (length m.payload) wanted).length)
moves_on phases.Answering m answer = chunks m (write_failure answer)
moves_on phases.WritingStatus m answer = statuses m (write_failure answer)
moves_on phases.ReadingNext m answer = nexts m (payload_of answer 8)
moves_on phases.WritingLastStatus m answer = λ e. tt
moves_on phases.Reset m answer = λ e. tt
moves_on phases.Suspended m answer = λ e. tt
moves_on phases.Dead m answer = λ e. tt

serves : (place : ℕ) (plain : PlainDisk) (told : Told) (move : Move) (m : Machine) → MoveBegins (move, m) → Begins (served place plain told move m)
serves place plain told (moves.Send step) m h = h
serves place plain told moves.Check m h =
    let s = check_step m place plain told in aheads_by s.0.dead s.1.orb.next s (checks m place plain told (verdict m.orb m.aborted))
serves place plain told moves.Judge m h = judges m told (need_of m.orb.cdb (plan_of m) plain place)
serves place plain told moves.Run m h = runs m told

ahead_reads : (m : Machine) (r : Result (List ℕ) FailCause) → Begins (ahead_read m r)
ahead_reads m (Ok bytes) = λ e. tt
ahead_reads m (Err cause) = λ e. tt

module _ (m : Machine) (place : ℕ) (plain : PlainDisk) (told : Option Told) (answer : Answer) where
  pub reply_begins : (which : Which) → Begins (reply_step m place plain told which answer)
  unfolding reply_step
  reply_begins Main = let a = advanced m.phase m answer in serves place plain (told_or told) a.0 a.1 (moves_on m.phase m answer)
  reply_begins Ahead = pick_step (is_ahead m.ahead) (ahead_step m answer) (quiet, m) (ahead_reads m (payload_of answer 32)) (λ e. tt)

  -- and one that goes on has more to write
  more_by : (n : Machine) (b : Bool) → (n.written == length n.answer) ≡ b → answers (cond b (end_step n kinds.Good None) (answer_step n)).1.phase ≡ true → (n.written == length n.answer) ≡ false
  more_by n true e f = absurd (false≢true f)
  more_by n false e f = e

  pub goes_on : m.phase ≡ phases.Answering → write_failure answer ≡ None → answers (reply_step m place plain told Main answer).1.phase ≡ true → (m.written + answer_chunk m == length m.answer) ≡ false
  unfolding reply_step
  goes_on e f g =
      let n : Machine = record m { written = m.written + answer_chunk m } in
      more_by n (n.written == length n.answer) refl
      (subst (λ x. answers (served place plain (told_or told) (chunk_written m x).0 (chunk_written m x).1).1.phase ≡ true) f
      (subst (λ ph. answers (served place plain (told_or told) (advanced ph m answer).0 (advanced ph m answer).1).1.phase ≡ true) e g))
