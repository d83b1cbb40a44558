-- Step by step: where an agent asks for a main transaction, or its read ahead becomes that, one is under way by its phase; and a reply to its read ahead leaves its phase.
use Rattle.sbp_world.proofs.Words.Std.{◌≡◌, ◌∙◌, refl, sym, ℕ, ◌+◌, ◌*◌, ◌==◌, length, Bool, true, false, cond, List, ◌++◌, Option, Some, None, Result, Ok, Err}
use Rattle.sbp_world.proofs.Words.Target.{Phase, ReadAhead, AgentStep, PointRefusal, Move, Ahead, Main, death_by, reads_table, verdict, Machine, is_ahead, is_sent, chunk_of, plan_of, state_in, advanced, ahead_lost, ahead_of, ahead_read, ahead_step, answer_chunk, answer_grown, checked, check_step, chunk_written, data_grown, data_read, data_step, dead_step, doorbell_in, doorbell_step, elements_read, end_step, fail_step, fetch_step, follow_step, judge_step, judged, lost_step, main_lost, next_read, orb_read, passed_step, point_in, point_step, pointed, quiet, ran_as, reply_step, reread_step, run_step, sent, served, status_phase, table_read, told_or, turn_step, unread_buffer, wait_step, Need, Outcome, Told, need_of, PlainDisk}
use Rattle.sbp_world.proofs.Words.Initiator.{Ask, Read, FailCause, OrbPointer, At, Null, StatusKind, pointer_at, Answer, payload_of, write_failure, PageFault, elements_of, first_fault}
use Rattle.sbp_world.proofs.Words.Laws.{is_nothing}
use Rattle.command_agent.specs.declared.phase.Phase.TheVariants as phases
use Rattle.command_agent.specs.declared.phase.ReadAhead.TheVariants as aheads
use Rattle.command_agent.specs.declared.step.Move.TheVariants as moves
use Rattle.command_agent.specs.Steps.{answer_step, status_written}
use Rattle.orb_layout.specs.declared.ask.FailCause.TheVariants as causes
use Rattle.orb_layout.specs.declared.status.StatusKind.TheVariants as kinds
use Rattle.rbc_disk.specs.declared.command.Need.TheVariants as needs
use Rattle.rbc_disk.specs.declared.command.Outcome.TheVariants as outcomes
use Rattle.sbp_world.proofs.Common.{untrue}

-- where a step asks for something, or the read ahead becomes the main transaction, one is under way
pub record IsSound (s : AgentStep × Machine) : Type 0 where
  pub asks : is_nothing s.0.ask ≡ false → is_sent s.1.phase ≡ true
  pub promotes : s.0.promoted ≡ true → (is_nothing s.0.ask ≡ true) × (is_sent s.1.phase ≡ true)

going : (s : AgentStep × Machine) → s.0.promoted ≡ false → is_sent s.1.phase ≡ true → IsSound s
going s p e = record { asks = λ h. e; promotes = λ h. untrue (sym p ∙ h) }

silent : (s : AgentStep × Machine) → s.0.promoted ≡ false → is_nothing s.0.ask ≡ true → IsSound s
silent s p e = record { asks = λ h. untrue (sym h ∙ e); promotes = λ h. untrue (sym p ∙ h) }

if_sound : (b : Bool) (x y : AgentStep × Machine) → IsSound x → IsSound y → IsSound (cond b x y)
if_sound true x y h i = h
if_sound false x y h i = i

status_sent : (dead : Option FailCause) → is_sent (status_phase dead) ≡ true
status_sent None = refl
status_sent (Some cause) = refl

end_sound : (m : Machine) (kind : StatusKind) (dead : Option FailCause) → IsSound (end_step m kind dead)
end_sound m kind dead = going (end_step m kind dead) refl (status_sent dead)

dead_sound : (m : Machine) (cause : FailCause) → IsSound (dead_step m cause)
dead_sound m cause = silent (dead_step m cause) refl refl

fetch_sound : (m : Machine) (next : ℕ) → IsSound (fetch_step m next)
fetch_sound m next = going (fetch_step m next) refl refl

data_sound : (m : Machine) (wanted : ℕ) → IsSound (data_step m wanted)
data_sound m wanted = going (data_step m wanted) refl refl

answer_sound : (m : Machine) → IsSound (answer_step m)
answer_sound m = going (answer_step m) refl refl

wait_sound : (m : Machine) → IsSound (wait_step m)
wait_sound m = if_sound m.doorbell (reread_step m) (quiet, record m { phase = phases.Suspended }) (going (reread_step m) refl refl) (silent (quiet, record m { phase = phases.Suspended }) refl refl)

ran_sound : (m : Machine) (outcome : Outcome) → IsSound (ran_as m outcome)
ran_sound m (outcomes.Check sense) = end_sound m (kinds.Check sense) None
ran_sound m (outcomes.Good len) = if_sound (len == 0) (end_step m kinds.Good None) (answer_step m) (end_sound m kinds.Good None) (answer_sound m)

run_sound : (m : Machine) (told : Told) → IsSound (run_step m told)
run_sound m told = let x = ran_sound (record m { answer = told.answer; written = 0 }) told.outcome in record { asks = x.asks; promotes = x.promotes }

judged_sound : (m : Machine) (told : Told) (need : Need) → IsSound (judged m told need)
judged_sound m told needs.RunNow = run_sound m told
judged_sound m told (needs.Payload len) = data_sound m len

judge_sound : (m : Machine) (place : ℕ) (plain : PlainDisk) (told : Told) → IsSound (judge_step m place plain told)
judge_sound m place plain told = judged_sound m told (need_of m.orb.cdb (plan_of m) plain place)

ahead_sound : (dead : Option FailCause) (next : OrbPointer) (s : AgentStep × Machine) → IsSound s → IsSound (ahead_of dead next s)
ahead_sound None (At next) s h = record { asks = h.asks; promotes = h.promotes }
ahead_sound None Null s h = h
ahead_sound (Some cause) next s h = h

module _ (place : ℕ) (plain : PlainDisk) (told : Told) where
  passed_sound : (m : Machine) → IsSound (passed_step m place plain told)
  passed_sound m = by (reads_table m.orb)
    where
      x : AgentStep × Machine
      x = judge_step (record m { segments = unread_buffer m.orb }) place plain told

      table : AgentStep × Machine
      table = (record quiet { ask = Read m.orb.descriptor (8 * m.orb.data_size) }, record m { phase = phases.ReadingTable })

      by : (b : Bool) → IsSound (cond b table x)
      by true = going table refl refl
      by false = judge_sound (record m { segments = unread_buffer m.orb }) place plain told

  checked_sound : (m : Machine) (o : Option StatusKind) → IsSound (checked m place plain told o)
  checked_sound m (Some kind) = end_sound m kind (death_by kind)
  checked_sound m None = passed_sound m

  check_sound : (m : Machine) → IsSound (check_step m place plain told)
  check_sound m = checked_sound m (verdict m.orb m.aborted)

  -- a move behind a reply
  abbrev MovesSound : Move × Machine → Type 0
  MovesSound (moves.Send step, m) = IsSound (step, m)
  MovesSound (moves.Check, m) = Unit {0}
  MovesSound (moves.Judge, m) = Unit {0}
  MovesSound (moves.Run, m) = Unit {0}

  served_sound : (move : Move) (m : Machine) → MovesSound (move, m) → IsSound (served place plain told move m)
  served_sound (moves.Send step) m h = h
  served_sound moves.Check m h = let s = check_step m place plain told in ahead_sound s.0.dead s.1.orb.next s (check_sound m)
  served_sound moves.Judge m h = judge_sound m place plain told
  served_sound moves.Run m h = run_sound m told

  if_moves : (b : Bool) (x y : Move × Machine) → MovesSound x → MovesSound y → MovesSound (cond b x y)
  if_moves true x y h i = h
  if_moves false x y h i = i

  sends : (s : AgentStep × Machine) → IsSound s → MovesSound (sent s)
  sends s h = record { asks = h.asks; promotes = h.promotes }

  fails : (m : Machine) (cause : FailCause) → MovesSound (sent (fail_step m cause))
  fails m cause = sends (fail_step m cause) (end_sound m kinds.Failed (Some cause))

  dies : (m : Machine) (cause : FailCause) → MovesSound (sent (dead_step m cause))
  dies m cause = sends (dead_step m cause) (dead_sound m cause)

  aborts : (m : Machine) → MovesSound (sent (end_step m kinds.Aborted None))
  aborts m = sends (end_step m kinds.Aborted None) (end_sound m kinds.Aborted None)

  turns : (m : Machine) (next : ℕ) (ahead : ReadAhead) → MovesSound (turn_step m next ahead)
  turns m next aheads.Idle = sends (fetch_step m next) (fetch_sound m next)
  turns m next (aheads.UnderWay rung) = record { asks = λ h. refl; promotes = λ h. (refl, refl) }
  turns m next (aheads.Kept orb) = tt

  follows : (m : Machine) (next : OrbPointer) → MovesSound (follow_step m next)
  follows m (At next) = turns m next m.ahead
  follows m Null = sends (wait_step m) (wait_sound m)

  status_moves : (m : Machine) (o : Option FailCause) → MovesSound (status_written m o)
  status_moves m (Some cause) = dies m cause
  status_moves m None = follows m m.orb.next

  next_moves : (m : Machine) (r : Result (List ℕ) FailCause) → MovesSound (next_read m r)
  next_moves m (Err cause) = dies m cause
  next_moves m (Ok bytes) = follows (record m { orb = record m.orb { next = pointer_at bytes 0 } }) (pointer_at bytes 0)

  orb_moves : (m : Machine) (r : Result (List ℕ) FailCause) → MovesSound (orb_read m r)
  orb_moves m (Err cause) = fails m cause
  orb_moves m (Ok bytes) = tt

  elements_move : (m : Machine) (bytes : List ℕ) (fault : Option PageFault) → MovesSound (elements_read m bytes fault)
  elements_move m bytes (Some fault) = sends (end_step m (kinds.Illegal 0xff) (Some causes.Grammar)) (end_sound m (kinds.Illegal 0xff) (Some causes.Grammar))
  elements_move m bytes None = tt

  table_moves : (m : Machine) (r : Result (List ℕ) FailCause) → MovesSound (table_read m r)
  table_moves m (Err cause) = fails m cause
  table_moves m (Ok bytes) =
      let fault = first_fault 0 (elements_of bytes) in if_moves m.aborted (sent (end_step m kinds.Aborted None)) (elements_read m bytes fault) (aborts m) (elements_move m bytes fault)

  grown_moves : (m : Machine) (wanted : ℕ) → MovesSound (data_grown m wanted)
  grown_moves m wanted = if_moves (length m.payload == wanted) (moves.Run, m) (sent (data_step m wanted)) tt (sends (data_step m wanted) (data_sound m wanted))

  data_moves : (m : Machine) (wanted : ℕ) (r : Result (List ℕ) FailCause) → MovesSound (data_read m wanted r)
  data_moves m wanted (Err cause) = fails m cause
  data_moves m wanted (Ok bytes) =
      let x : Machine = record m { payload = m.payload ++ bytes } in
      if_moves m.aborted (sent (end_step m kinds.Aborted None)) (data_grown x wanted) (aborts m) (grown_moves x wanted)

  answer_moves : (m : Machine) → MovesSound (answer_grown m)
  answer_moves m =
      let s = cond (m.written == length m.answer) (end_step m kinds.Good None) (answer_step m) in
      sends s (if_sound (m.written == length m.answer) (end_step m kinds.Good None) (answer_step m) (end_sound m kinds.Good None) (answer_sound m))

  chunk_moves : (m : Machine) (o : Option FailCause) → MovesSound (chunk_written m o)
  chunk_moves m (Some cause) = fails m cause
  chunk_moves m None = answer_moves (record m { written = m.written + answer_chunk m })

  rests : (m : Machine) → MovesSound (moves.Send quiet, m)
  rests m = silent (quiet, m) refl refl

  advances : (phase : Phase) (m : Machine) (answer : Answer) → MovesSound (advanced phase m answer)
  advances phases.Fetching m answer = orb_moves m (payload_of answer 32)
  advances phases.ReadingTable m answer = table_moves m (payload_of answer (8 * m.orb.data_size))
  advances (phases.ReadingData wanted) m answer = data_moves m wanted (payload_of answer (chunk_of m (length m.payload) wanted).length)
  advances phases.Answering m answer = chunk_moves m (write_failure answer)
  advances phases.WritingStatus m answer = status_moves m (write_failure answer)
  advances phases.ReadingNext m answer = next_moves m (payload_of answer 8)
  advances phases.WritingLastStatus m answer = silent (quiet, record m { phase = phases.Dead }) refl refl
  advances phases.Reset m answer = rests m
  advances phases.Suspended m answer = rests m
  advances phases.Dead m answer = rests m

-- a reply to the main transaction
pub main_sound : (m : Machine) (place : ℕ) (plain : PlainDisk) (told : Option Told) (answer : Answer) → IsSound (reply_step m place plain told Main answer)
unfolding reply_step
main_sound m place plain told answer =
    let x = advanced m.phase m answer in served_sound place plain (told_or told) x.0 x.1 (advances place plain (told_or told) m.phase m answer)

-- one that says nothing, and leaves the phase
pub record IsQuiet (m : Machine) (s : AgentStep × Machine) : Type 0 where
  pub nothing : s.0 ≡ quiet
  pub phase : s.1.phase ≡ m.phase

ahead_quiet : (m : Machine) (r : Result (List ℕ) FailCause) → IsQuiet m (ahead_read m r)
ahead_quiet m (Ok bytes) = record { nothing = refl; phase = refl }
ahead_quiet m (Err cause) = record { nothing = refl; phase = refl }

if_quiet : (m : Machine) (b : Bool) (x y : AgentStep × Machine) → IsQuiet m x → IsQuiet m y → IsQuiet m (cond b x y)
if_quiet m true x y h i = h
if_quiet m false x y h i = i

-- a reply to the read ahead
pub read_quiet : (m : Machine) (place : ℕ) (plain : PlainDisk) (told : Option Told) (answer : Answer) → IsQuiet m (reply_step m place plain told Ahead answer)
unfolding reply_step
read_quiet m place plain told answer = if_quiet m (is_ahead m.ahead) (ahead_step m answer) (quiet, m) (ahead_quiet m (payload_of answer 32)) (record { nothing = refl; phase = refl })

pub lost_quiet : (m : Machine) (cause : FailCause) → IsQuiet m (lost_step m Ahead cause)
unfolding lost_step
lost_quiet m cause = if_quiet m (is_ahead m.ahead) (ahead_lost m cause) (quiet, m) (record { nothing = refl; phase = refl }) (record { nothing = refl; phase = refl })

-- the main transaction is lost: the read ahead does not become that
pub record IsLost (s : AgentStep × Machine) : Type 0 where
  pub sound : IsSound s
  pub stays : s.0.promoted ≡ false

lost_by : (phase : Phase) (m : Machine) (cause : FailCause) → IsLost (main_lost phase m cause)
lost_by phases.Fetching m cause = record { sound = end_sound m kinds.Failed (Some cause); stays = refl }
lost_by phases.ReadingTable m cause = record { sound = end_sound m kinds.Failed (Some cause); stays = refl }
lost_by (phases.ReadingData wanted) m cause = record { sound = end_sound m kinds.Failed (Some cause); stays = refl }
lost_by phases.Answering m cause = record { sound = end_sound m kinds.Failed (Some cause); stays = refl }
lost_by phases.WritingStatus m cause = record { sound = dead_sound m cause; stays = refl }
lost_by phases.ReadingNext m cause = record { sound = dead_sound m cause; stays = refl }
lost_by phases.WritingLastStatus m cause = record { sound = silent (quiet, record m { phase = phases.Dead }) refl refl; stays = refl }
lost_by phases.Reset m cause = record { sound = silent (quiet, m) refl refl; stays = refl }
lost_by phases.Suspended m cause = record { sound = silent (quiet, m) refl refl; stays = refl }
lost_by phases.Dead m cause = record { sound = silent (quiet, m) refl refl; stays = refl }

pub main_is_lost : (m : Machine) (cause : FailCause) → IsLost (lost_step m Main cause)
unfolding lost_step
main_is_lost m cause = lost_by m.phase m cause

-- ---- ORB_POINTER is taken where no main transaction is under way
abbrev pub IsTaken : Machine → Result Ask PointRefusal × Machine → Type 0
IsTaken m (Err refusal, machine) = Unit {0}
IsTaken m (Ok ask, machine) = (is_sent m.phase ≡ false) × (is_sent machine.phase ≡ true)

pointed_taken : (m : Machine) (pointer : OrbPointer) → is_sent m.phase ≡ false → IsTaken m (pointed m pointer)
pointed_taken m Null e = tt
pointed_taken m (At next) e = (e, refl)

takes : (phase : Phase) (m : Machine) (pointer : OrbPointer) → is_sent m.phase ≡ is_sent phase → IsTaken m (point_in (state_in phase) m pointer)
takes phases.Reset m pointer e = pointed_taken m pointer e
takes phases.Suspended m pointer e = pointed_taken m pointer e
takes phases.Dead m pointer e = tt
takes phases.Fetching m pointer e = tt
takes phases.ReadingTable m pointer e = tt
takes (phases.ReadingData wanted) m pointer e = tt
takes phases.Answering m pointer e = tt
takes phases.WritingStatus m pointer e = tt
takes phases.ReadingNext m pointer e = tt
takes phases.WritingLastStatus m pointer e = tt

pub point_taken : (m : Machine) (pointer : OrbPointer) → IsTaken m (point_step m pointer)
unfolding point_step
point_taken m pointer = takes m.phase m pointer refl

-- ---- and so is a doorbell that asks for something
pub record IsRung (m : Machine) (s : Ask × Machine) : Type 0 where
  pub asks : is_nothing s.0 ≡ false → (is_sent m.phase ≡ false) × (is_sent s.1.phase ≡ true)
  pub rests : is_sent s.1.phase ≡ false → is_sent m.phase ≡ false

rings : (phase : Phase) (m : Machine) → is_sent m.phase ≡ is_sent phase → IsRung m (doorbell_in (state_in phase) m)
rings phases.Suspended m e = record { asks = λ h. (e, refl); rests = λ h. untrue (sym h) }
rings phases.Reset m e = record { asks = λ h. untrue (sym h); rests = λ h. h }
rings phases.Dead m e = record { asks = λ h. untrue (sym h); rests = λ h. h }
rings phases.Fetching m e = record { asks = λ h. untrue (sym h); rests = λ h. h }
rings phases.ReadingTable m e = record { asks = λ h. untrue (sym h); rests = λ h. h }
rings (phases.ReadingData wanted) m e = record { asks = λ h. untrue (sym h); rests = λ h. h }
rings phases.Answering m e = record { asks = λ h. untrue (sym h); rests = λ h. h }
rings phases.WritingStatus m e = record { asks = λ h. untrue (sym h); rests = λ h. h }
rings phases.ReadingNext m e = record { asks = λ h. untrue (sym h); rests = λ h. h }
rings phases.WritingLastStatus m e = record { asks = λ h. untrue (sym h); rests = λ h. h }

pub doorbell_rung : (m : Machine) → IsRung m (doorbell_step m)
unfolding doorbell_step
doorbell_rung m = rings m.phase m refl
