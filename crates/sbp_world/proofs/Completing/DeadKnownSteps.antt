-- A step of an agent makes it dead, or one that writes its last status block, only where it tells so (NCITS 325-1998, command block agents): neither a reply, a loss, a doorbell, a pointer, a reset nor an abort does so
-- without a word.
use Rattle.sbp_world.proofs.Words.Std.{◌≡◌, refl, ℕ, ◌==◌, ◌+◌, ◌*◌, Bool, true, false, cond, List, ◌++◌, length, Option, Some, None, Result, Ok, Err}
use Rattle.sbp_world.proofs.Words.Target.{Need, Outcome, Told, need_of, PlainDisk, Phase, ReadAhead, AgentState, AgentStep, Move, Which, Main, Ahead, death_by, reads_table, verdict, Machine, chunk_of, is_ahead, plan_of, state_in, abort_step, advanced, ahead_lost, ahead_of, ahead_read, ahead_step, answer_chunk, check_step, checked, chunk_written, data_grown, data_read, data_step, doorbell_in, doorbell_step, elements_read, end_step, follow_step, judge_step, judged, lost_step, main_lost, next_read, orb_read, passed_step, point_in, point_step, quiet, ran_as, reply_step, reread_step, reset_step, run_step, sent, served, table_read, told_or, turn_step, unread_buffer}
use Rattle.sbp_world.proofs.Words.Initiator.{FailCause, OrbPointer, Null, At, StatusKind, pointer_at, Answer, payload_of, write_failure, PageFault, elements_of, first_fault}
use Rattle.orb_layout.specs.declared.status.StatusKind.TheVariants as kinds
use Rattle.rbc_disk.specs.declared.command.Need.TheVariants as needs
use Rattle.rbc_disk.specs.declared.command.Outcome.TheVariants as outcomes
use Rattle.command_agent.specs.declared.phase.Phase.TheVariants as phases
use Rattle.command_agent.specs.declared.phase.ReadAhead.TheVariants as aheads
use Rattle.command_agent.specs.declared.step.AgentState.TheVariants as states
use Rattle.command_agent.specs.declared.step.Move.TheVariants as moves
use Rattle.command_agent.specs.Steps.{answer_step, status_written}
use Rattle.sbp_world.proofs.Common.{untrue}

-- it is not dead, nor about to be
abbrev pub is_alive : Phase → Bool
is_alive phases.Dead = false
is_alive phases.WritingLastStatus = false
is_alive phase = true

abbrev pub IsAlive : Machine → Type 0
IsAlive m = is_alive m.phase ≡ true

-- so it is behind a step that does not tell that it dies
abbrev pub Lives : AgentStep × Machine → Type 0
Lives s = s.0.dead ≡ None → IsAlive s.1

abbrev Goes : Move × Machine → Type 0
Goes (moves.Send step, m) = Lives (step, m)
Goes (moves.Check, m) = IsAlive m
Goes (moves.Judge, m) = IsAlive m
Goes (moves.Run, m) = IsAlive m

pick_lives : (b : Bool) (x y : AgentStep × Machine) → Lives x → Lives y → Lives (cond b x y)
pick_lives true x y h i = h
pick_lives false x y h i = i

pick_goes : (b : Bool) (x y : Move × Machine) → Goes x → Goes y → Goes (cond b x y)
pick_goes true x y h i = h
pick_goes false x y h i = i

end_lives : (m : Machine) (kind : StatusKind) (dead : Option FailCause) → Lives (end_step m kind dead)
end_lives m kind None = λ e. refl
end_lives m kind (Some cause) = λ e. cc e

ran_lives : (m : Machine) (outcome : Outcome) → Lives (ran_as m outcome)
ran_lives m (outcomes.Check sense) = λ e. refl
ran_lives m (outcomes.Good len) = pick_lives (len == 0) (end_step m kinds.Good None) (answer_step m) (λ e. refl) (λ e. refl)

run_lives : (m : Machine) (told : Told) → Lives (run_step m told)
run_lives m told = ran_lives (record m { answer = told.answer; written = 0 }) told.outcome

judged_lives : (m : Machine) (told : Told) (need : Need) → Lives (judged m told need)
judged_lives m told needs.RunNow = run_lives m told
judged_lives m told (needs.Payload len) = λ e. refl

aheads_live : (dead : Option FailCause) (next : OrbPointer) (s : AgentStep × Machine) → Lives s → Lives (ahead_of dead next s)
aheads_live None (At next) s h = h
aheads_live None Null s h = h
aheads_live (Some cause) next s h = h

module _ (place : ℕ) (plain : PlainDisk) (told : Told) where
  passed_lives : (m : Machine) → Lives (passed_step m place plain told)
  passed_lives m =
      let n = record m { segments = unread_buffer m.orb } in
      pick_lives (reads_table m.orb) (_, record m { phase = phases.ReadingTable }) (judge_step n place plain told) (λ e. refl) (judged_lives n told (need_of n.orb.cdb (plan_of n) plain place))

  checked_lives : (m : Machine) (found : Option StatusKind) → Lives (checked m place plain told found)
  checked_lives m (Some kind) = end_lives m kind (death_by kind)
  checked_lives m None = passed_lives m

  served_lives : (move : Move) (m : Machine) → Goes (move, m) → Lives (served place plain told move m)
  served_lives (moves.Send step) m h = h
  served_lives moves.Check m h = let s = check_step m place plain told in aheads_live s.0.dead s.1.orb.next s (checked_lives m (verdict m.orb m.aborted))
  served_lives moves.Judge m h = judged_lives m told (need_of m.orb.cdb (plan_of m) plain place)
  served_lives moves.Run m h = run_lives m told

-- ---- a reply
turn_goes : (m : Machine) (next : ℕ) (ahead : ReadAhead) → Goes (turn_step m next ahead)
turn_goes m next aheads.Idle = λ e. refl
turn_goes m next (aheads.UnderWay rung) = λ e. refl
turn_goes m next (aheads.Kept orb) = refl

wait_goes : (b : Bool) (m : Machine) → Goes (sent (cond b (reread_step m) (quiet, record m { phase = phases.Suspended })))
wait_goes true m = λ e. refl
wait_goes false m = λ e. refl

follow_goes : (m : Machine) (next : OrbPointer) → Goes (follow_step m next)
follow_goes m (At next) = turn_goes m next m.ahead
follow_goes m Null = wait_goes m.doorbell m

status_goes : (m : Machine) (failure : Option FailCause) → Goes (status_written m failure)
status_goes m (Some cause) = λ e. cc e
status_goes m None = follow_goes m m.orb.next

next_goes : (m : Machine) (r : Result (List ℕ) FailCause) → Goes (next_read m r)
next_goes m (Err cause) = λ e. cc e
next_goes m (Ok bytes) = follow_goes (record m { orb = record m.orb { next = pointer_at bytes 0 } }) (pointer_at bytes 0)

orb_goes : (m : Machine) (r : Result (List ℕ) FailCause) → IsAlive m → Goes (orb_read m r)
orb_goes m (Err cause) h = λ e. cc e
orb_goes m (Ok bytes) h = h

elements_go : (m : Machine) (bytes : List ℕ) (fault : Option PageFault) → IsAlive m → Goes (elements_read m bytes fault)
elements_go m bytes (Some fault) h = λ e. cc e
elements_go m bytes None h = h

table_goes : (m : Machine) (r : Result (List ℕ) FailCause) → IsAlive m → Goes (table_read m r)
table_goes m (Err cause) h = λ e. cc e
table_goes m (Ok bytes) h =
    let fault = first_fault 0 (elements_of bytes) in pick_goes m.aborted (sent (end_step m kinds.Aborted None)) (elements_read m bytes fault) (λ e. refl) (elements_go m bytes fault h)

data_goes : (m : Machine) (wanted : ℕ) (r : Result (List ℕ) FailCause) → IsAlive m → Goes (data_read m wanted r)
data_goes m wanted (Err cause) h = λ e. cc e
data_goes m wanted (Ok bytes) h =
    let n = record m { payload = m.payload ++ bytes } in
    pick_goes m.aborted (sent (end_step m kinds.Aborted None)) (data_grown n wanted) (λ e. refl) (pick_goes (length n.payload == wanted) (moves.Run, n) (sent (data_step n wanted)) h (λ e. refl))

grown_goes : (b : Bool) (m : Machine) → Goes (sent (cond b (end_step m kinds.Good None) (answer_step m)))
grown_goes true m = λ e. refl
grown_goes false m = λ e. refl

chunk_goes : (m : Machine) (failure : Option FailCause) → Goes (chunk_written m failure)
chunk_goes m (Some cause) = λ e. cc e
chunk_goes m None = let n = record m { written = m.written + answer_chunk m } in grown_goes (n.written == length n.answer) n

advanced_goes : (phase : Phase) (m : Machine) (answer : Answer) → is_alive phase ≡ true → IsAlive m → Goes (advanced phase m answer)
advanced_goes phases.Fetching m answer e h = orb_goes m (payload_of answer 32) h
advanced_goes phases.ReadingTable m answer e h = table_goes m (payload_of answer (8 * m.orb.data_size)) h
advanced_goes (phases.ReadingData wanted) m answer e h = data_goes m wanted (payload_of answer (chunk_of m (length m.payload) wanted).length) h
advanced_goes phases.Answering m answer e h = chunk_goes m (write_failure answer)
advanced_goes phases.WritingStatus m answer e h = status_goes m (write_failure answer)
advanced_goes phases.ReadingNext m answer e h = next_goes m (payload_of answer 8)
advanced_goes phases.WritingLastStatus m answer e h = untrue e
advanced_goes phases.Reset m answer e h = λ f. h
advanced_goes phases.Suspended m answer e h = λ f. h
advanced_goes phases.Dead m answer e h = untrue e

ahead_lives : (m : Machine) (r : Result (List ℕ) FailCause) → IsAlive m → Lives (ahead_read m r)
ahead_lives m (Ok bytes) h = λ e. h
ahead_lives m (Err cause) h = λ e. h

pub reply_lives : (m : Machine) (place : ℕ) (plain : PlainDisk) (told : Option Told) (which : Which) (answer : Answer) → IsAlive m → Lives (reply_step m place plain told which answer)
unfolding reply_step
reply_lives m place plain told Main answer h = let a = advanced m.phase m answer in served_lives place plain (told_or told) a.0 a.1 (advanced_goes m.phase m answer h h)
reply_lives m place plain told Ahead answer h = pick_lives (is_ahead m.ahead) (ahead_step m answer) (quiet, m) (ahead_lives m (payload_of answer 32) h) (λ e. h)

-- ---- a loss, a doorbell, a pointer
main_lives : (phase : Phase) (m : Machine) (cause : FailCause) → is_alive phase ≡ true → IsAlive m → Lives (main_lost phase m cause)
main_lives phases.Fetching m cause e h = λ f. cc f
main_lives phases.ReadingTable m cause e h = λ f. cc f
main_lives (phases.ReadingData wanted) m cause e h = λ f. cc f
main_lives phases.Answering m cause e h = λ f. cc f
main_lives phases.WritingStatus m cause e h = λ f. cc f
main_lives phases.ReadingNext m cause e h = λ f. cc f
main_lives phases.WritingLastStatus m cause e h = untrue e
main_lives phases.Reset m cause e h = λ f. h
main_lives phases.Suspended m cause e h = λ f. h
main_lives phases.Dead m cause e h = untrue e

pub lost_lives : (m : Machine) (which : Which) (cause : FailCause) → IsAlive m → Lives (lost_step m which cause)
unfolding lost_step
lost_lives m Main cause h = main_lives m.phase m cause h h
lost_lives m Ahead cause h = pick_lives (is_ahead m.ahead) (ahead_lost m cause) (quiet, m) (λ e. h) (λ e. h)

bell_alive : (state : AgentState) (m : Machine) → IsAlive m → IsAlive (doorbell_in state m).1
bell_alive states.Active m h = h
bell_alive states.Suspended m h = refl
bell_alive states.Reset m h = h
bell_alive states.Dead m h = h

pub doorbell_alive : (m : Machine) → IsAlive m → IsAlive (doorbell_step m).1
unfolding doorbell_step
doorbell_alive m h = bell_alive (state_in m.phase) m h

pointed_alive : (state : AgentState) (m : Machine) (pointer : OrbPointer) → IsAlive m → IsAlive (point_in state m pointer).1
pointed_alive states.Reset m Null h = h
pointed_alive states.Reset m (At next) h = refl
pointed_alive states.Suspended m Null h = h
pointed_alive states.Suspended m (At next) h = refl
pointed_alive states.Active m pointer h = h
pointed_alive states.Dead m pointer h = h

pub point_alive : (m : Machine) (pointer : OrbPointer) → IsAlive m → IsAlive (point_step m pointer).1
unfolding point_step
point_alive m pointer h = pointed_alive (state_in m.phase) m pointer h

-- ---- a reset and an abort
pub reset_alive : (m : Machine) → IsAlive (reset_step m)
unfolding reset_step
reset_alive m = refl

pub abort_alive : (m : Machine) (orb : ℕ) → IsAlive m → IsAlive (abort_step m orb)
unfolding abort_step
abort_alive m orb h = h
