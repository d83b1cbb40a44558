-- No step of an agent that is in another state than RESET puts it to RESET (NCITS 325-1998, command block agents): neither a reply, a loss, a doorbell nor a pointer.
use Rattle.sbp_world.proofs.Words.Std.{◌≡◌, refl, ℕ, ◌==◌, ◌+◌, ◌*◌, Bool, true, false, cond, List, ◌++◌, length, Option, Some, None, Result, Ok, Err}
use Rattle.sbp_world.proofs.Words.Target.{Need, Outcome, Told, need_of, PlainDisk, Phase, ReadAhead, AgentState, AgentStep, Move, Which, Main, Ahead, death_by, reads_table, verdict, Machine, chunk_of, is_ahead, plan_of, state_in, advanced, ahead_lost, ahead_of, ahead_read, ahead_step, answer_chunk, check_step, checked, chunk_written, data_grown, data_read, data_step, doorbell_in, doorbell_step, elements_read, end_step, follow_step, is_reset, judge_step, judged, lost_step, main_lost, next_read, orb_read, passed_step, point_in, point_step, quiet, ran_as, reply_step, reread_step, run_step, sent, served, table_read, told_or, turn_step, unread_buffer}
use Rattle.sbp_world.proofs.Words.Initiator.{FailCause, OrbPointer, Null, At, StatusKind, pointer_at, Answer, payload_of, write_failure, PageFault, elements_of, first_fault}
use Rattle.orb_layout.specs.declared.status.StatusKind.TheVariants as kinds
use Rattle.rbc_disk.specs.declared.command.Need.TheVariants as needs
use Rattle.rbc_disk.specs.declared.command.Outcome.TheVariants as outcomes
use Rattle.command_agent.specs.declared.phase.Phase.TheVariants as phases
use Rattle.command_agent.specs.declared.phase.ReadAhead.TheVariants as aheads
use Rattle.command_agent.specs.declared.step.AgentState.TheVariants as states
use Rattle.command_agent.specs.declared.step.Move.TheVariants as moves
use Rattle.command_agent.specs.Steps.{answer_step, status_written}

-- it is in another state
abbrev pub IsUp : Machine → Type 0
IsUp m = is_reset (state_in m.phase) ≡ false

pick_up : (b : Bool) (x y : AgentStep × Machine) → IsUp x.1 → IsUp y.1 → IsUp (cond b x y).1
pick_up true x y h i = h
pick_up false x y h i = i

pick_move : (b : Bool) (x y : Move × Machine) → IsUp x.1 → IsUp y.1 → IsUp (cond b x y).1
pick_move true x y h i = h
pick_move false x y h i = i

end_up : (m : Machine) (kind : StatusKind) (dead : Option FailCause) → IsUp (end_step m kind dead).1
end_up m kind None = refl
end_up m kind (Some cause) = refl

ran_up : (m : Machine) (outcome : Outcome) → IsUp (ran_as m outcome).1
ran_up m (outcomes.Check sense) = refl
ran_up m (outcomes.Good len) = pick_up (len == 0) (end_step m kinds.Good None) (answer_step m) refl refl

run_up : (m : Machine) (told : Told) → IsUp (run_step m told).1
run_up m told = ran_up (record m { answer = told.answer; written = 0 }) told.outcome

judged_up : (m : Machine) (told : Told) (need : Need) → IsUp (judged m told need).1
judged_up m told needs.RunNow = run_up m told
judged_up m told (needs.Payload len) = refl

aheads_up : (dead : Option FailCause) (next : OrbPointer) (s : AgentStep × Machine) → IsUp s.1 → IsUp (ahead_of dead next s).1
aheads_up None (At next) s h = h
aheads_up None Null s h = h
aheads_up (Some cause) next s h = h

module _ (place : ℕ) (plain : PlainDisk) (told : Told) where
  passed_up : (m : Machine) → IsUp (passed_step m place plain told).1
  passed_up m =
      let n = record m { segments = unread_buffer m.orb } in
      pick_up (reads_table m.orb) (_, record m { phase = phases.ReadingTable }) (judge_step n place plain told) refl (judged_up n told (need_of n.orb.cdb (plan_of n) plain place))

  checked_up : (m : Machine) (found : Option StatusKind) → IsUp (checked m place plain told found).1
  checked_up m (Some kind) = end_up m kind (death_by kind)
  checked_up m None = passed_up m

  served_up : (move : Move) (m : Machine) → IsUp m → IsUp (served place plain told move m).1
  served_up (moves.Send step) m h = h
  served_up moves.Check m h = let s = check_step m place plain told in aheads_up s.0.dead s.1.orb.next s (checked_up m (verdict m.orb m.aborted))
  served_up moves.Judge m h = judged_up m told (need_of m.orb.cdb (plan_of m) plain place)
  served_up moves.Run m h = run_up m told

-- ---- a reply
turn_up : (m : Machine) (next : ℕ) (ahead : ReadAhead) → IsUp (turn_step m next ahead).1
turn_up m next aheads.Idle = refl
turn_up m next (aheads.UnderWay rung) = refl
turn_up m next (aheads.Kept orb) = refl

follow_up : (m : Machine) (next : OrbPointer) → IsUp (follow_step m next).1
follow_up m (At next) = turn_up m next m.ahead
follow_up m Null = pick_up m.doorbell (reread_step m) (quiet, record m { phase = phases.Suspended }) refl refl

status_up : (m : Machine) (failure : Option FailCause) → IsUp (status_written m failure).1
status_up m (Some cause) = refl
status_up m None = follow_up m m.orb.next

next_up : (m : Machine) (r : Result (List ℕ) FailCause) → IsUp (next_read m r).1
next_up m (Err cause) = refl
next_up m (Ok bytes) = follow_up (record m { orb = record m.orb { next = pointer_at bytes 0 } }) (pointer_at bytes 0)

orb_up : (m : Machine) (r : Result (List ℕ) FailCause) → IsUp m → IsUp (orb_read m r).1
orb_up m (Err cause) h = refl
orb_up m (Ok bytes) h = h

elements_up : (m : Machine) (bytes : List ℕ) (fault : Option PageFault) → IsUp m → IsUp (elements_read m bytes fault).1
elements_up m bytes (Some fault) h = refl
elements_up m bytes None h = h

table_up : (m : Machine) (r : Result (List ℕ) FailCause) → IsUp m → IsUp (table_read m r).1
table_up m (Err cause) h = refl
table_up m (Ok bytes) h =
    let fault = first_fault 0 (elements_of bytes) in pick_move m.aborted (sent (end_step m kinds.Aborted None)) (elements_read m bytes fault) refl (elements_up m bytes fault h)

data_up : (m : Machine) (wanted : ℕ) (r : Result (List ℕ) FailCause) → IsUp m → IsUp (data_read m wanted r).1
data_up m wanted (Err cause) h = refl
data_up m wanted (Ok bytes) h =
    let n = record m { payload = m.payload ++ bytes } in
    pick_move m.aborted (sent (end_step m kinds.Aborted None)) (data_grown n wanted) refl (pick_move (length n.payload == wanted) (moves.Run, n) (sent (data_step n wanted)) h refl)

chunk_up : (m : Machine) (failure : Option FailCause) → IsUp (chunk_written m failure).1
chunk_up m (Some cause) = refl
chunk_up m None = let n = record m { written = m.written + answer_chunk m } in pick_up (n.written == length n.answer) (end_step n kinds.Good None) (answer_step n) refl refl

advanced_up : (phase : Phase) (m : Machine) (answer : Answer) → IsUp m → IsUp (advanced phase m answer).1
advanced_up phases.Fetching m answer h = orb_up m (payload_of answer 32) h
advanced_up phases.ReadingTable m answer h = table_up m (payload_of answer (8 * m.orb.data_size)) h
advanced_up (phases.ReadingData wanted) m answer h = data_up m wanted (payload_of answer (chunk_of m (length m.payload) wanted).length) h
advanced_up phases.Answering m answer h = chunk_up m (write_failure answer)
advanced_up phases.WritingStatus m answer h = status_up m (write_failure answer)
advanced_up phases.ReadingNext m answer h = next_up m (payload_of answer 8)
advanced_up phases.WritingLastStatus m answer h = refl
advanced_up phases.Reset m answer h = h
advanced_up phases.Suspended m answer h = h
advanced_up phases.Dead m answer h = h

ahead_up : (m : Machine) (r : Result (List ℕ) FailCause) → IsUp m → IsUp (ahead_read m r).1
ahead_up m (Ok bytes) h = h
ahead_up m (Err cause) h = h

pub reply_up : (m : Machine) (place : ℕ) (plain : PlainDisk) (told : Option Told) (which : Which) (answer : Answer) → IsUp m → IsUp (reply_step m place plain told which answer).1
unfolding reply_step
reply_up m place plain told Main answer h = let a = advanced m.phase m answer in served_up place plain (told_or told) a.0 a.1 (advanced_up m.phase m answer h)
reply_up m place plain told Ahead answer h = pick_up (is_ahead m.ahead) (ahead_step m answer) (quiet, m) (ahead_up m (payload_of answer 32) h) h

-- ---- a loss, a doorbell, a pointer
main_up : (phase : Phase) (m : Machine) (cause : FailCause) → IsUp m → IsUp (main_lost phase m cause).1
main_up phases.Fetching m cause h = refl
main_up phases.ReadingTable m cause h = refl
main_up (phases.ReadingData wanted) m cause h = refl
main_up phases.Answering m cause h = refl
main_up phases.WritingStatus m cause h = refl
main_up phases.ReadingNext m cause h = refl
main_up phases.WritingLastStatus m cause h = refl
main_up phases.Reset m cause h = h
main_up phases.Suspended m cause h = h
main_up phases.Dead m cause h = h

pub lost_up : (m : Machine) (which : Which) (cause : FailCause) → IsUp m → IsUp (lost_step m which cause).1
unfolding lost_step
lost_up m Main cause h = main_up m.phase m cause h
lost_up m Ahead cause h = pick_up (is_ahead m.ahead) (ahead_lost m cause) (quiet, m) h h

bell_up : (state : AgentState) (m : Machine) → IsUp m → IsUp (doorbell_in state m).1
bell_up states.Active m h = h
bell_up states.Suspended m h = refl
bell_up states.Reset m h = h
bell_up states.Dead m h = h

pub doorbell_up : (m : Machine) → IsUp m → IsUp (doorbell_step m).1
unfolding doorbell_step
doorbell_up m h = bell_up (state_in m.phase) m h

pointed_up : (state : AgentState) (m : Machine) (pointer : OrbPointer) → IsUp m → IsUp (point_in state m pointer).1
pointed_up states.Reset m Null h = h
pointed_up states.Reset m (At next) h = refl
pointed_up states.Suspended m Null h = h
pointed_up states.Suspended m (At next) h = refl
pointed_up states.Active m pointer h = h
pointed_up states.Dead m pointer h = h

pub point_up : (m : Machine) (pointer : OrbPointer) → IsUp m → IsUp (point_step m pointer).1
unfolding point_step
point_up m pointer h = pointed_up (state_in m.phase) m pointer h
