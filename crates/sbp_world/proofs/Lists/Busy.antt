-- An agent that has an ORB which has not ended has it still behind a step, or the step ends it. One that has a list open, and no such ORB, is on a list of
-- which some ended.
use Rattle.sbp_world.proofs.Words.Std.{◌≡◌, refl, sym, inl, inr, ◌⊎◌, arith, ◌==◌, ◌+◌, ◌*◌, ℕ, is_some, Bool, true, false, cond, List, ◌++◌, length, Option, Some, None, Result, Ok, Err, false≢true}
use Rattle.sbp_world.proofs.Words.Target.{Need, Outcome, Told, need_of, PlainDisk, Phase, AgentStep, Move, Which, Main, Ahead, death_by, reads_table, verdict, Machine, chunk_of, is_ahead, plan_of, advanced, ahead_lost, ahead_of, ahead_read, ahead_step, answer_chunk, check_step, checked, chunk_written, data_grown, data_read, data_step, elements_read, end_step, judge_step, judged, lost_step, main_lost, orb_read, passed_step, quiet, ran_as, reply_step, run_step, sent, served, table_read, told_or, unread_buffer, with_outcome, Along, Knows, Progress, OrbList}
use Rattle.sbp_world.proofs.Words.Initiator.{FailCause, OrbPointer, Null, At, StatusKind, Answer, payload_of, write_failure, PageFault, elements_of, first_fault}
use Rattle.sbp_world.proofs.Words.World.{has_list}
use Rattle.orb_layout.specs.declared.ask.FailCause.TheVariants as causes
use Rattle.orb_layout.specs.declared.status.StatusKind.TheVariants as kinds
use Rattle.rbc_disk.specs.declared.command.Need.TheVariants as needs
use Rattle.rbc_disk.specs.declared.command.Outcome.TheVariants as outcomes
use Rattle.command_agent.specs.declared.phase.Phase.TheVariants as phases
use Rattle.command_agent.specs.declared.step.Move.TheVariants as moves
use Rattle.command_agent.specs.Steps.{answer_step}

-- an ORB is read, reads its data or is answered: it has not ended
abbrev pub is_busy : Phase → Bool
is_busy phases.Fetching = true
is_busy phases.ReadingTable = true
is_busy (phases.ReadingData wanted) = true
is_busy phases.Answering = true
is_busy _ = false

pub busy_list : (phase : Phase) → is_busy phase ≡ true → has_list phase ≡ true
busy_list phases.Reset e = absurd (false≢true e)
busy_list phases.Dead e = absurd (false≢true e)
busy_list phases.Fetching e = refl
busy_list phases.ReadingTable e = refl
busy_list (phases.ReadingData wanted) e = refl
busy_list phases.Answering e = refl
busy_list phases.WritingStatus e = refl
busy_list phases.WritingLastStatus e = refl
busy_list phases.ReadingNext e = refl
busy_list phases.Suspended e = refl

-- ---- a list of which some ended
some_in : (l : OrbList) (p : Progress) (phase : Phase) (m : Machine) → has_list phase ≡ true → is_busy phase ≡ false → Knows l p phase m → p.ended ≡ 0 → ⊥
some_in l p phases.Reset m h b k z = false≢true h
some_in l p phases.Dead m h b k z = false≢true h
some_in l p phases.Fetching m h b k z = false≢true (sym b)
some_in l p phases.ReadingTable m h b k z = false≢true (sym b)
some_in l p (phases.ReadingData wanted) m h b k z = false≢true (sym b)
some_in l p phases.Answering m h b k z = false≢true (sym b)
some_in l p phases.WritingStatus m h b k z = let e = k.over.ended in omega (arith, e, z)
some_in l p phases.WritingLastStatus m h b k z = let e = k.over.ended in omega (arith, e, z)
some_in l p phases.ReadingNext m h b k z = let e = k.over.ended in omega (arith, e, z)
some_in l p phases.Suspended m h b k z = let e = k.over.ended in omega (arith, e, z)

pub some_ended : (l : OrbList) (p : Progress) (m : Machine) → has_list m.phase ≡ true → is_busy m.phase ≡ false → Along l p m → p.ended ≡ 0 → ⊥
some_ended l p m h b a z = some_in l p m.phase m h b a.main z

-- ---- a step leaves it, or ends it
abbrev pub StaysBusy : AgentStep × Machine → Type 0
StaysBusy s = (is_busy s.1.phase ≡ true) ⊎ (is_some s.0.ended ≡ true)

abbrev MoveBusy : Move × Machine → Type 0
MoveBusy (moves.Send step, m) = StaysBusy (step, m)
MoveBusy (moves.Check, m) = Unit {0}
MoveBusy (moves.Judge, m) = Unit {0}
MoveBusy (moves.Run, m) = Unit {0}

pick : (b : Bool) (x y : Move × Machine) → MoveBusy x → MoveBusy y → MoveBusy (cond b x y)
pick true x y h i = h
pick false x y h i = i

pick_step : (b : Bool) (x y : AgentStep × Machine) → StaysBusy x → StaysBusy y → StaysBusy (cond b x y)
pick_step true x y h i = h
pick_step false x y h i = i

ends : (m : Machine) (kind : StatusKind) (dead : Option FailCause) → StaysBusy (end_step m kind dead)
ends m kind dead = inr refl

ran : (m : Machine) (outcome : Outcome) → StaysBusy (ran_as m outcome)
ran m (outcomes.Check sense) = ends m (kinds.Check sense) None
ran m (outcomes.Good len) = pick_step (len == 0) (end_step m kinds.Good None) (answer_step m) (ends m kinds.Good None) (inl refl)

with_run : (outcome : Outcome) (s : AgentStep × Machine) → StaysBusy s → StaysBusy (with_outcome outcome s)
with_run outcome s (inl e) = inl e
with_run outcome s (inr e) = inr e

runs : (m : Machine) (told : Told) → StaysBusy (run_step m told)
runs m told = let n = record m { answer = told.answer; written = 0 } in with_run told.outcome (ran_as n told.outcome) (ran n told.outcome)

judges : (m : Machine) (told : Told) (need : Need) → StaysBusy (judged m told need)
judges m told needs.RunNow = runs m told
judges m told (needs.Payload len) = inl refl

passes : (m : Machine) (place : ℕ) (plain : PlainDisk) (told : Told) → StaysBusy (passed_step m place plain told)
passes m place plain told =
    let n = record m { segments = unread_buffer m.orb } in
    pick_step (reads_table m.orb) (_, record m { phase = phases.ReadingTable }) (judge_step n place plain told) (inl refl) (judges n told (need_of n.orb.cdb (plan_of n) plain place))

checks : (m : Machine) (place : ℕ) (plain : PlainDisk) (told : Told) (verdict : Option StatusKind) → StaysBusy (checked m place plain told verdict)
checks m place plain told (Some kind) = ends m kind (death_by kind)
checks m place plain told None = passes m place plain told

aheads_by : (dead : Option FailCause) (next : OrbPointer) (s : AgentStep × Machine) → StaysBusy s → StaysBusy (ahead_of dead next s)
aheads_by None (At next) s (inl e) = inl e
aheads_by None (At next) s (inr e) = inr e
aheads_by None Null s h = h
aheads_by (Some cause) next s h = h

-- ---- replies
orbs_read : (m : Machine) (r : Result (List ℕ) FailCause) → MoveBusy (orb_read m r)
orbs_read m (Err cause) = ends m kinds.Failed (Some cause)
orbs_read m (Ok bytes) = tt

elements : (m : Machine) (bytes : List ℕ) (fault : Option PageFault) → MoveBusy (elements_read m bytes fault)
elements m bytes (Some fault) = ends m (kinds.Illegal 0xff) (Some causes.Grammar)
elements m bytes None = tt

tables : (m : Machine) (r : Result (List ℕ) FailCause) → MoveBusy (table_read m r)
tables m (Err cause) = ends m kinds.Failed (Some cause)
tables m (Ok bytes) =
    pick m.aborted (sent (end_step m kinds.Aborted None)) (elements_read m bytes (first_fault 0 (elements_of bytes))) (ends m kinds.Aborted None) (elements m bytes (first_fault 0 (elements_of bytes)))

grows : (m : Machine) (wanted : ℕ) → MoveBusy (data_grown m wanted)
grows m wanted = pick (length m.payload == wanted) (moves.Run, m) (sent (data_step m wanted)) tt (inl refl)

data_reads : (m : Machine) (wanted : ℕ) (r : Result (List ℕ) FailCause) → MoveBusy (data_read m wanted r)
data_reads m wanted (Err cause) = ends m kinds.Failed (Some cause)
data_reads m wanted (Ok bytes) =
    let n = record m { payload = m.payload ++ bytes } in
    pick m.aborted (sent (end_step m kinds.Aborted None)) (data_grown n wanted) (ends m kinds.Aborted None) (grows n wanted)

answers : (m : Machine) → StaysBusy (cond (m.written == length m.answer) (end_step m kinds.Good None) (answer_step m))
answers m = pick_step (m.written == length m.answer) (end_step m kinds.Good None) (answer_step m) (ends m kinds.Good None) (inl refl)

chunks : (m : Machine) (failure : Option FailCause) → MoveBusy (chunk_written m failure)
chunks m (Some cause) = ends m kinds.Failed (Some cause)
chunks m None = answers (record m { written = m.written + answer_chunk m })

moves_on : (phase : Phase) (m : Machine) (answer : Answer) → is_busy phase ≡ true → MoveBusy (advanced phase m answer)
moves_on phases.Fetching m answer b = orbs_read m (payload_of answer 32)
moves_on phases.ReadingTable m answer b = tables m (payload_of answer (8 * m.orb.data_size))
moves_on (phases.ReadingData wanted) m answer b = data_reads m wanted (payload_of answer (chunk_of m (length m.payload) wanted).length)
moves_on phases.Answering m answer b = chunks m (write_failure answer)
moves_on phases.WritingStatus m answer b = absurd (false≢true b)
moves_on phases.ReadingNext m answer b = absurd (false≢true b)
moves_on phases.WritingLastStatus m answer b = absurd (false≢true b)
moves_on phases.Reset m answer b = absurd (false≢true b)
moves_on phases.Suspended m answer b = absurd (false≢true b)
moves_on phases.Dead m answer b = absurd (false≢true b)

serves : (place : ℕ) (plain : PlainDisk) (told : Told) (move : Move) (m : Machine) → MoveBusy (move, m) → StaysBusy (served place plain told move m)
serves place plain told (moves.Send step) m h = h
serves place plain told moves.Check m h =
    let s = check_step m place plain told in aheads_by s.0.dead s.1.orb.next s (checks m place plain told (verdict m.orb m.aborted))
serves place plain told moves.Judge m h = judges m told (need_of m.orb.cdb (plan_of m) plain place)
serves place plain told moves.Run m h = runs m told

ahead_reads : (m : Machine) (r : Result (List ℕ) FailCause) → is_busy m.phase ≡ true → StaysBusy (ahead_read m r)
ahead_reads m (Ok bytes) b = inl b
ahead_reads m (Err cause) b = inl b

pub replied_busy : (m : Machine) (place : ℕ) (plain : PlainDisk) (told : Option Told) (which : Which) (answer : Answer) → is_busy m.phase ≡ true → StaysBusy (reply_step m place plain told which answer)
unfolding reply_step
replied_busy m place plain told Main answer b =
    let a = advanced m.phase m answer in serves place plain (told_or told) a.0 a.1 (moves_on m.phase m answer b)
replied_busy m place plain told Ahead answer b =
    pick_step (is_ahead m.ahead) (ahead_step m answer) (quiet, m) (ahead_reads m (payload_of answer 32) b) (inl b)

-- ---- losses
loses : (phase : Phase) (m : Machine) (cause : FailCause) → is_busy phase ≡ true → StaysBusy (main_lost phase m cause)
loses phases.Fetching m cause b = ends m kinds.Failed (Some cause)
loses phases.ReadingTable m cause b = ends m kinds.Failed (Some cause)
loses (phases.ReadingData wanted) m cause b = ends m kinds.Failed (Some cause)
loses phases.Answering m cause b = ends m kinds.Failed (Some cause)
loses phases.WritingStatus m cause b = absurd (false≢true b)
loses phases.ReadingNext m cause b = absurd (false≢true b)
loses phases.WritingLastStatus m cause b = absurd (false≢true b)
loses phases.Reset m cause b = absurd (false≢true b)
loses phases.Suspended m cause b = absurd (false≢true b)
loses phases.Dead m cause b = absurd (false≢true b)

pub lost_busy : (m : Machine) (which : Which) (cause : FailCause) → is_busy m.phase ≡ true → StaysBusy (lost_step m which cause)
unfolding lost_step
lost_busy m Main cause b = loses m.phase m cause b
lost_busy m Ahead cause b = pick_step (is_ahead m.ahead) (ahead_lost m cause) (quiet, m) (inl b) (inl b)
