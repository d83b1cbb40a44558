-- An agent that reads the data of its command waits for more bytes, no more than its buffer has, and its data go to the target: so it stays by each call of the agent.
use Rattle.sbp_world.proofs.Words.Std.{arith, ◌≡◌, refl, ap, ◌<◌, ◌≤◌, ◌+◌, ◌-◌, ◌*◌, ◌==◌, ◌++◌, ℕ, Bool, true, false, cond, List, [], length, length-append, Option, Some, None, Result, Ok, Err, nat_tests}
use Rattle.sbp_world.proofs.Words.Target.{Phase, ReadAhead, AgentState, AgentStep, Move, Which, Ahead, Main, death_by, reads_table, verdict, Machine, is_ahead, chunk_of, cut_to, limit_of, plan_of, state_in, abort_step, advanced, ahead_lost, ahead_of, ahead_read, answer_chunk, checked, check_step, chunk_written, data_grown, data_read, data_step, doorbell_in, doorbell_step, elements_read, end_step, follow_step, judge_step, judged, lost_step, main_lost, next_read, orb_read, point_in, point_step, pointed, quiet, ran_as, reply_step, reread_step, reset_step, run_step, served, table_read, told_or, turn_step, turned, unread_buffer, Need, Outcome, Told, need_of, PlainDisk}
use Rattle.sbp_world.proofs.Words.Initiator.{FailCause, OrbPointer, At, Null, StatusKind, pointer_at, Answer, payload_of, write_failure, PageFault, elements_of, first_fault, bytes_of, Chunk, chunk_from, command_orb}
use Rattle.command_agent.specs.Steps.{answer_step, status_written, with_ahead}
use Rattle.command_agent.specs.declared.phase.Phase.TheVariants as phases
use Rattle.command_agent.specs.declared.phase.ReadAhead.TheVariants as aheads
use Rattle.command_agent.specs.declared.step.AgentState.TheVariants as states
use Rattle.orb_layout.specs.declared.status.StatusKind.TheVariants as kinds
use Rattle.rbc_disk.specs.declared.command.Need.TheVariants as needs
use Rattle.rbc_disk.specs.declared.command.Outcome.TheVariants as outcomes
use Rattle.sbp_world.proofs.Completing.AnswersNeeds.{need_fits}
use Rattle.sbp_world.proofs.Lists.Brought.{paid}
use Rattle.sbp_world.proofs.Lists.Full.{IsClosed}

pub record IsToRead (m : Machine) (wanted : ℕ) : Type 0 where
  pub more : length m.payload < wanted
  pub fits : wanted ≤ bytes_of m.segments
  pub out : m.orb.to_initiator ≡ false

-- before it reads data it has none
abbrev pub ReadsIn : Phase → Machine → Type 0
ReadsIn phases.Fetching m = m.payload ≡ []
ReadsIn phases.ReadingTable m = m.payload ≡ []
ReadsIn (phases.ReadingData wanted) m = IsToRead m wanted
ReadsIn _ m = Unit {0}

abbrev pub IsReading : Machine → Type 0
IsReading m = ReadsIn m.phase m

abbrev Leaves : AgentStep × Machine → Type 0
Leaves s = IsReading s.1

pick : (b : Bool) (x y : AgentStep × Machine) → Leaves x → Leaves y → Leaves (cond b x y)
pick true x y h k = h
pick false x y h k = k

-- ---- steps
ends : (m : Machine) (kind : StatusKind) (dead : Option FailCause) → Leaves (end_step m kind dead)
ends m kind None = tt
ends m kind (Some cause) = tt

-- what is told of a read ahead, of the doorbell and of an abort leaves it
beside : (phase : Phase) (m : Machine) (ahead : ReadAhead) (doorbell aborted : Bool) → ReadsIn phase m → ReadsIn phase (record m { ahead = ahead; doorbell = doorbell; aborted = aborted })
beside phases.Fetching m ahead doorbell aborted h = h
beside phases.ReadingTable m ahead doorbell aborted h = h
beside (phases.ReadingData wanted) m ahead doorbell aborted h = record { more = h.more; fits = h.fits; out = h.out }
beside _ m ahead doorbell aborted h = tt

still : (m : Machine) (ahead : ReadAhead) (doorbell aborted : Bool) → IsReading m → IsReading (record m { ahead = ahead; doorbell = doorbell; aborted = aborted })
still m ahead doorbell aborted h = beside m.phase m ahead doorbell aborted h

fills : (m : Machine) (wanted : ℕ) → IsToRead m wanted → Leaves (data_step m wanted)
fills m wanted f = record { more = f.more; fits = f.fits; out = f.out }

ran : (m : Machine) (outcome : Outcome) → Leaves (ran_as m outcome)
ran m (outcomes.Check sense) = tt
ran m (outcomes.Good len) = pick (len == 0) (end_step m kinds.Good None) (answer_step m) tt tt

runs : (m : Machine) (told : Told) → Leaves (run_step m told)
runs m told = ran (record m { answer = told.answer; written = 0 }) told.outcome

judges_as : (m : Machine) (place : ℕ) (plain : PlainDisk) (told : Told) (need : Need) → need_of m.orb.cdb (plan_of m) plain place ≡ need → m.payload ≡ [] → Leaves (judged m told need)
judges_as m place plain told needs.RunNow e fresh = runs m told
judges_as m place plain told (needs.Payload wanted) e fresh =
    let n = need_fits m.orb.cdb (plan_of m) plain place wanted e in
    let none : length m.payload ≡ 0 = ap length fresh in
    let some = n.some in
    fills m wanted (record { more = omega (arith, none, some); fits = n.within; out = n.out })

judges : (m : Machine) (place : ℕ) (plain : PlainDisk) (told : Told) → m.payload ≡ [] → Leaves (judge_step m place plain told)
judges m place plain told fresh = judges_as m place plain told (need_of m.orb.cdb (plan_of m) plain place) refl fresh

module _ (place : ℕ) (plain : PlainDisk) (told : Told) where
  checks_as : (m : Machine) (kind : Option StatusKind) → m.payload ≡ [] → Leaves (checked m place plain told kind)
  checks_as m (Some kind) fresh = ends m kind (death_by kind)
  checks_as m None fresh = pick (reads_table m.orb) _ (judge_step (record m { segments = unread_buffer m.orb }) place plain told) fresh (judges (record m { segments = unread_buffer m.orb }) place plain told fresh)

  reads_ahead : (dead : Option FailCause) (next : OrbPointer) (s : AgentStep × Machine) → Leaves s → Leaves (ahead_of dead next s)
  reads_ahead None (At next) s h = still s.1 (aheads.UnderWay s.1.doorbell) false s.1.aborted h
  reads_ahead None Null s h = h
  reads_ahead (Some cause) next s h = h

  checks : (m : Machine) → m.payload ≡ [] → Leaves (with_ahead (check_step m place plain told))
  checks m fresh = let s : AgentStep × Machine = check_step m place plain told in reads_ahead s.0.dead s.1.orb.next s (checks_as m (verdict m.orb m.aborted) fresh)

  -- ---- a reply
  abbrev Does : Move × Machine → Type 0
  Does s = Leaves (served place plain told s.0 s.1)

  either : (b : Bool) (x y : Move × Machine) → Does x → Does y → Does (cond b x y)
  either true x y h k = h
  either false x y h k = k

  orb_reads : (m : Machine) (read : Result (List ℕ) FailCause) → m.payload ≡ [] → Does (orb_read m read)
  orb_reads m (Err cause) fresh = tt
  orb_reads m (Ok bytes) fresh = checks (record m { orb = command_orb bytes }) fresh

  elements_read_on : (m : Machine) (bytes : List ℕ) (fault : Option PageFault) → m.payload ≡ [] → Does (elements_read m bytes fault)
  elements_read_on m bytes (Some fault) fresh = tt
  elements_read_on m bytes None fresh = judges (record m { segments = elements_of bytes }) place plain told fresh

  table_reads : (m : Machine) (read : Result (List ℕ) FailCause) → m.payload ≡ [] → Does (table_read m read)
  table_reads m (Err cause) fresh = tt
  table_reads m (Ok bytes) fresh = either m.aborted _ (elements_read m bytes (first_fault 0 (elements_of bytes))) tt (elements_read_on m bytes (first_fault 0 (elements_of bytes)) fresh)

  cut_small : (left : ℕ) (found : Option Chunk) → (cut_to left found).length ≤ left
  cut_small left None = omega arith
  cut_small left (Some taken) = omega arith

  data_reads : (m : Machine) (wanted : ℕ) (read : Result (List ℕ) FailCause) → IsToRead m wanted → ((bytes : List ℕ) → read ≡ Ok bytes → length bytes ≡ (chunk_of m (length m.payload) wanted).length) → Does (data_read m wanted read)
  data_reads m wanted (Err cause) f size = tt
  data_reads m wanted (Ok bytes) f size = either m.aborted _ (data_grown more wanted) tt (grown (length more.payload == wanted) refl)
    where
      more : Machine
      more = record m { payload = m.payload ++ bytes }

      grown : (b : Bool) → (length more.payload == wanted) ≡ b → Does (data_grown more wanted)
      grown true e = pick_run e
        where
          pick_run : (length more.payload == wanted) ≡ true → Does (data_grown more wanted)
          pick_run g = rw g (runs more told)
      grown false e =
          let joined = length-append m.payload bytes in
          let chunk = size bytes refl in
          let small = cut_small (wanted - length m.payload) (chunk_from m.segments (length m.payload) (limit_of m.orb)) in
          let before = f.more in
          let less : length more.payload < wanted = grind (arith, nat_tests, e, joined, chunk, small, before) in
          rw e (fills more wanted (record { more = less; fits = f.fits; out = f.out }))

  chunk_writes : (m : Machine) (failure : Option FailCause) → Does (chunk_written m failure)
  chunk_writes m (Some cause) = tt
  chunk_writes m None = let on : Machine = record m { written = m.written + answer_chunk m } in pick (on.written == length on.answer) (end_step on kinds.Good None) (answer_step on) tt tt

  turns : (m : Machine) (next : ℕ) (ahead : ReadAhead) → Does (turn_step m next ahead)
  turns m next aheads.Idle = refl
  turns m next (aheads.UnderWay rung) = refl
  turns m next (aheads.Kept orb) = checks (record (turned m next) { orb = orb }) refl

  follows : (m : Machine) (next : OrbPointer) → Does (follow_step m next)
  follows m (At next) = turns m next m.ahead
  follows m Null = pick m.doorbell (reread_step m) (quiet, record m { phase = phases.Suspended }) tt tt

  status_writes : (m : Machine) (failure : Option FailCause) → Does (status_written m failure)
  status_writes m (Some cause) = tt
  status_writes m None = follows m m.orb.next

  next_reads : (m : Machine) (read : Result (List ℕ) FailCause) → Does (next_read m read)
  next_reads m (Err cause) = tt
  next_reads m (Ok bytes) = follows (record m { orb = record m.orb { next = pointer_at bytes 0 } }) (pointer_at bytes 0)

  main_reads : (phase : Phase) (m : Machine) (answer : Answer) → m.phase ≡ phase → ReadsIn phase m → Does (advanced phase m answer)
  main_reads phases.Fetching m answer e h = orb_reads m (payload_of answer 32) h
  main_reads phases.ReadingTable m answer e h = table_reads m (payload_of answer (8 * m.orb.data_size)) h
  main_reads (phases.ReadingData wanted) m answer e h =
      let size = (chunk_of m (length m.payload) wanted).length in data_reads m wanted (payload_of answer size) h (λ bytes f. (paid answer size bytes f).size_is)
  main_reads phases.Answering m answer e h = chunk_writes m (write_failure answer)
  main_reads phases.WritingStatus m answer e h = status_writes m (write_failure answer)
  main_reads phases.ReadingNext m answer e h = next_reads m (payload_of answer 8)
  main_reads phases.WritingLastStatus m answer e h = tt
  main_reads phases.Reset m answer e h = by_phase m e
    where
      by_phase : (m : Machine) → m.phase ≡ phases.Reset → IsReading m
      by_phase m e = rw e tt
  main_reads phases.Suspended m answer e h = rw e tt
  main_reads phases.Dead m answer e h = rw e tt

ahead_reads : (m : Machine) (read : Result (List ℕ) FailCause) → IsReading m → Leaves (ahead_read m read)
ahead_reads m (Ok bytes) h = still m (aheads.Kept (command_orb bytes)) m.doorbell m.aborted h
ahead_reads m (Err cause) h = still m aheads.Idle (ahead_lost m cause).1.doorbell m.aborted h

pub reply_reads : (m : Machine) (place : ℕ) (plain : PlainDisk) (told : Option Told) (which : Which) (answer : Answer) → IsReading m → IsReading (reply_step m place plain told which answer).1
unfolding reply_step
reply_reads m place plain told Main answer h = main_reads place plain (told_or told) m.phase m answer refl h
reply_reads m place plain told Ahead answer h = pick (is_ahead m.ahead) _ (quiet, m) (ahead_reads m (payload_of answer 32) h) h

-- ---- the other calls
main_losses : (phase : Phase) (m : Machine) (cause : FailCause) → IsReading m → Leaves (main_lost phase m cause)
main_losses phases.Fetching m cause h = tt
main_losses phases.ReadingTable m cause h = tt
main_losses (phases.ReadingData wanted) m cause h = tt
main_losses phases.Answering m cause h = tt
main_losses phases.WritingStatus m cause h = tt
main_losses phases.ReadingNext m cause h = tt
main_losses phases.WritingLastStatus m cause h = tt
main_losses phases.Reset m cause h = h
main_losses phases.Suspended m cause h = h
main_losses phases.Dead m cause h = h

loses : (m : Machine) (which : Which) (cause : FailCause) → IsReading m → Leaves (lost_step m which cause)
unfolding lost_step
loses m Main cause h = main_losses m.phase m cause h
loses m Ahead cause h = pick (is_ahead m.ahead) (ahead_lost m cause) (quiet, m) (still m aheads.Idle (ahead_lost m cause).1.doorbell m.aborted h) h

bell_in : (state : AgentState) (m : Machine) → IsReading m → IsReading (doorbell_in state m).1
bell_in states.Active m h = still m m.ahead true m.aborted h
bell_in states.Suspended m h = tt
bell_in states.Reset m h = h
bell_in states.Dead m h = h

bells : (m : Machine) → IsReading m → IsReading (doorbell_step m).1
unfolding doorbell_step
bells m h = bell_in (state_in m.phase) m h

pointed_reads : (m : Machine) (pointer : OrbPointer) → IsReading m → IsReading (pointed m pointer).1
pointed_reads m Null h = h
pointed_reads m (At next) h = refl

point_at : (state : AgentState) (m : Machine) (pointer : OrbPointer) → IsReading m → IsReading (point_in state m pointer).1
point_at states.Reset m pointer h = pointed_reads m pointer h
point_at states.Suspended m pointer h = pointed_reads m pointer h
point_at states.Active m pointer h = h
point_at states.Dead m pointer h = h

points : (m : Machine) (pointer : OrbPointer) → IsReading m → IsReading (point_step m pointer).1
unfolding point_step
points m pointer h = point_at (state_in m.phase) m pointer h

resets : (m : Machine) → IsReading (reset_step m)
unfolding reset_step
resets m = tt

aborts : (m : Machine) (orb : ℕ) → IsReading m → IsReading (abort_step m orb)
unfolding abort_step
aborts m orb h = still m m.ahead m.doorbell (abort_step m orb).aborted h

pub reading_closed : IsClosed (λ q m. IsReading m)
reading_closed = record { reset = λ q m. resets m; abort = λ q m. aborts m; lost = λ q m. loses m; bell = λ q m. bells m; point = λ q m. points m }
