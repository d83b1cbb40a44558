-- What an agent writes as a status is the block of an ORB that ended, with a status of a row (NCITS 325-1998, status block): so it stays by each call of the agent.
use Rattle.sbp_world.proofs.Words.Std.{◌≡◌, refl, sym, subst, ◌<◌, ◌+◌, ◌*◌, ◌==◌, ◌^◌, ◌&&◌, ◌++◌, not, nat_lt, ℕ, Bool, true, false, cond, List, length, Option, Some, None, Result, Ok, Err, if◌then◌else◌, none-some, same_Some}
use Rattle.sbp_world.proofs.Words.Target.{Phase, ReadAhead, AgentState, AgentStep, Which, Ahead, Main, Move, death_by, reads_table, verdict, refusal, Machine, Sense, is_ahead, chunk_of, plan_of, state_in, abort_step, advanced, ahead_lost, ahead_of, ahead_read, answer_chunk, checked, check_step, chunk_written, data_grown, data_read, data_step, doorbell_in, doorbell_step, elements_read, end_step, follow_step, judge_step, judged, lost_step, main_lost, next_read, orb_read, point_in, point_step, pointed, quiet, ran_as, reply_step, reread_step, reset_step, run_step, sent, served, table_read, told_or, turn_step, turned, unread_buffer, Need, Outcome, Told, need_of, PlainDisk}
use Rattle.sbp_world.proofs.Words.Initiator.{FailCause, CommandOrb, OrbPointer, At, Null, StatusKind, IsKind, is_management, pointer_at, Answer, payload_of, write_failure, PageFault, elements_of, first_fault, command_orb, status_bytes}
use Rattle.command_agent.specs.Steps.{answer_step, status_written, with_ahead}
use Rattle.command_agent.specs.declared.phase.Phase.TheVariants as phases
use Rattle.command_agent.specs.declared.phase.ReadAhead.TheVariants as aheads
use Rattle.command_agent.specs.declared.step.AgentState.TheVariants as states
use Rattle.command_agent.specs.declared.step.Move.TheVariants as moves
use Rattle.orb_layout.specs.declared.ask.FailCause.TheVariants as causes
use Rattle.orb_layout.specs.declared.status.StatusKind.TheVariants as kinds
use Rattle.command_agent.specs.Runs.{MayTell}
use Rattle.rbc_disk.specs.Checks.{check_of}
use Rattle.rbc_disk.specs.Runs.{MayEnd, check_in, failure_of}
use Rattle.rbc_disk.specs.declared.command.Need.TheVariants as needs
use Rattle.rbc_disk.specs.declared.command.Outcome.TheVariants as outcomes
use Rattle.sbp_world.proofs.Lists.Full.{IsClosed}
use Rattle.sbp_world.proofs.Lists.StatusChecks.{Row, may_row}
use Rattle.sbp_world.proofs.Lists.StatusLosses.{src_small}

-- a status of a command ORB that has a row
abbrev pub IsSound : StatusKind → Type 0
IsSound kind = IsKind kind × (is_management kind ≡ false)

pub record IsBlock (m : Machine) : Type 0 where
  pub src : ℕ
  pub small : src < 2
  pub kind : StatusKind
  pub sound : IsSound kind
  pub bytes : m.outgoing ≡ status_bytes (record { src = src; kind = kind; orb = m.present })

abbrev pub WritesIn : Phase → Machine → Type 0
WritesIn phases.WritingStatus m = IsBlock m
WritesIn phases.WritingLastStatus m = IsBlock m
WritesIn _ m = Unit {0}

abbrev pub IsWriting : Machine → Type 0
IsWriting m = WritesIn m.phase m

-- behind a step, where a check that a command ended with has its values in their ranges
abbrev AreRows : Option Outcome → Type 0
AreRows ran = (sense : Sense) → ran ≡ Some (outcomes.Check sense) → Row sense

abbrev Leaves : AgentStep × Machine → Type 0
Leaves s = AreRows s.0.ran → IsWriting s.1

pick : (b : Bool) (x y : AgentStep × Machine) → Leaves x → Leaves y → Leaves (cond b x y)
pick true x y h k = h
pick false x y h k = k

-- ---- ends
written : (m : Machine) (kind : StatusKind) (dead : Option FailCause) → IsSound kind → IsBlock (end_step m kind dead).1
written m kind dead f = record { src = _; small = src_small m.orb.next; kind = kind; sound = f; bytes = refl }

ends : (m : Machine) (kind : StatusKind) (dead : Option FailCause) → IsSound kind → IsWriting (end_step m kind dead).1
ends m kind None f = written m kind None f
ends m kind (Some cause) f = written m kind (Some cause) f

-- what is told of a read ahead, of the doorbell and of an abort leaves it
beside : (phase : Phase) (m : Machine) (ahead : ReadAhead) (doorbell aborted : Bool) → WritesIn phase m → WritesIn phase (record m { ahead = ahead; doorbell = doorbell; aborted = aborted })
beside phases.WritingStatus m ahead doorbell aborted h = record { src = h.src; small = h.small; kind = h.kind; sound = h.sound; bytes = h.bytes }
beside phases.WritingLastStatus m ahead doorbell aborted h = record { src = h.src; small = h.small; kind = h.kind; sound = h.sound; bytes = h.bytes }
beside _ m ahead doorbell aborted h = tt

still : (m : Machine) (ahead : ReadAhead) (doorbell aborted : Bool) → IsWriting m → IsWriting (record m { ahead = ahead; doorbell = doorbell; aborted = aborted })
still m ahead doorbell aborted h = beside m.phase m ahead doorbell aborted h

-- ---- a command runs
ran : (m : Machine) (outcome : Outcome) → AreRows (Some outcome) → IsWriting (ran_as m outcome).1
ran m (outcomes.Check sense) rows = ends m (kinds.Check sense) None (rows sense refl, refl)
ran m (outcomes.Good len) rows = by (len == 0)
  where
    by : (b : Bool) → IsWriting (cond b (end_step m kinds.Good None) (answer_step m)).1
    by true = ends m kinds.Good None (tt, refl)
    by false = tt

runs : (m : Machine) (told : Told) → Leaves (run_step m told)
runs m told rows = ran (record m { answer = told.answer; written = 0 }) told.outcome rows

judges : (m : Machine) (told : Told) (need : Need) → Leaves (judged m told need)
judges m told needs.RunNow = runs m told
judges m told (needs.Payload wanted) = λ rows. tt

-- ---- the first row that holds of an ORB
abbrev IfSound : Option StatusKind → Type 0
IfSound None = Unit {0}
IfSound (Some kind) = IsSound kind

pick_sound : (b : Bool) (x y : Option StatusKind) → IfSound x → IfSound y → IfSound (cond b x y)
pick_sound true x y h i = h
pick_sound false x y h i = i

refusals : (orb : CommandOrb) → IfSound (refusal orb)
unfolding refusal
refusals orb =
    pick_sound (nat_lt 2 orb.speed) (Some (kinds.Illegal 0x02)) _ (refl, refl)
    (pick_sound (nat_lt (7 + orb.speed) orb.max_payload) (Some (kinds.Illegal 0xff)) _ (refl, refl)
    (pick_sound (orb.has_table && not (orb.page_size == 0)) (Some (kinds.Illegal 0x03)) _ (refl, refl)
    (pick_sound (orb.has_table && nat_lt 64 orb.data_size) (Some (kinds.Illegal 0xff)) _ (refl, refl)
    (pick_sound (not orb.has_table && nat_lt (2 ^ 48) (orb.descriptor + orb.data_size)) (Some (kinds.Illegal 0xff)) None (refl, refl) tt))))

verdicts : (orb : CommandOrb) (aborted : Bool) → IfSound (verdict orb aborted)
unfolding verdict
verdicts orb aborted =
    pick_sound (orb.format == 3) (Some kinds.Dummy) (if not (orb.format == 0) then Some (kinds.Illegal 0x01) else if aborted then Some kinds.Aborted else refusal orb) (tt, refl)
    (pick_sound (not (orb.format == 0)) (Some (kinds.Illegal 0x01)) (if aborted then Some kinds.Aborted else refusal orb) (refl, refl)
    (pick_sound aborted (Some kinds.Aborted) (refusal orb) (tt, refl) (refusals orb)))

module _ (place : ℕ) (plain : PlainDisk) (told : Told) where
  judge_step_writes : (m : Machine) → Leaves (judge_step m place plain told)
  judge_step_writes m = judges m told (need_of m.orb.cdb (plan_of m) plain place)

  checks_as : (m : Machine) (kind : Option StatusKind) → IfSound kind → Leaves (checked m place plain told kind)
  checks_as m (Some kind) f = λ rows. ends m kind (death_by kind) f
  checks_as m None f = let n = record m { segments = unread_buffer m.orb } in pick (reads_table m.orb) _ (judge_step n place plain told) (λ rows. tt) (judge_step_writes n)

  reads_ahead : (dead : Option FailCause) (next : OrbPointer) (s : AgentStep × Machine) → Leaves s → Leaves (ahead_of dead next s)
  reads_ahead None (At next) s h = λ rows. still s.1 (aheads.UnderWay s.1.doorbell) false s.1.aborted (h rows)
  reads_ahead None Null s h = h
  reads_ahead (Some cause) next s h = h

  checks : (m : Machine) → Leaves (with_ahead (check_step m place plain told))
  checks m = let s : AgentStep × Machine = check_step m place plain told in reads_ahead s.0.dead s.1.orb.next s (checks_as m (verdict m.orb m.aborted) (verdicts m.orb m.aborted))

  -- ---- a reply
  abbrev Does : Move × Machine → Type 0
  Does s = Leaves (served place plain told s.0 s.1)

  either : (b : Bool) (x y : Move × Machine) → Does x → Does y → Does (cond b x y)
  either true x y h k = h
  either false x y h k = k

  orb_reads : (m : Machine) (read : Result (List ℕ) FailCause) → Does (orb_read m read)
  orb_reads m (Err cause) = λ rows. ends m kinds.Failed (Some cause) (tt, refl)
  orb_reads m (Ok bytes) = checks (record m { orb = command_orb bytes })

  elements_read_on : (m : Machine) (bytes : List ℕ) (fault : Option PageFault) → Does (elements_read m bytes fault)
  elements_read_on m bytes (Some fault) = λ rows. ends m (kinds.Illegal 0xff) (Some causes.Grammar) (refl, refl)
  elements_read_on m bytes None = judge_step_writes (record m { segments = elements_of bytes })

  table_reads : (m : Machine) (read : Result (List ℕ) FailCause) → Does (table_read m read)
  table_reads m (Err cause) = λ rows. ends m kinds.Failed (Some cause) (tt, refl)
  table_reads m (Ok bytes) = either m.aborted _ (elements_read m bytes (first_fault 0 (elements_of bytes))) (λ rows. ends m kinds.Aborted None (tt, refl)) (elements_read_on m bytes (first_fault 0 (elements_of bytes)))

  grows : (m : Machine) (wanted : ℕ) → Does (data_grown m wanted)
  grows m wanted = by (length m.payload == wanted)
    where
      by : (b : Bool) → Does (cond b (moves.Run, m) (sent (data_step m wanted)))
      by true = runs m told
      by false = λ rows. tt

  data_reads : (m : Machine) (wanted : ℕ) (read : Result (List ℕ) FailCause) → Does (data_read m wanted read)
  data_reads m wanted (Err cause) = λ rows. ends m kinds.Failed (Some cause) (tt, refl)
  data_reads m wanted (Ok bytes) = let n = record m { payload = m.payload ++ bytes } in either m.aborted _ (data_grown n wanted) (λ rows. ends m kinds.Aborted None (tt, refl)) (grows n wanted)

  chunk_writes : (m : Machine) (failure : Option FailCause) → Does (chunk_written m failure)
  chunk_writes m (Some cause) = λ rows. ends m kinds.Failed (Some cause) (tt, refl)
  chunk_writes m None = let on : Machine = record m { written = m.written + answer_chunk m } in pick (on.written == length on.answer) (end_step on kinds.Good None) (answer_step on) (λ rows. ends on kinds.Good None (tt, refl)) (λ rows. tt)

  turns : (m : Machine) (next : ℕ) (ahead : ReadAhead) → Does (turn_step m next ahead)
  turns m next aheads.Idle = λ rows. tt
  turns m next (aheads.UnderWay rung) = λ rows. tt
  turns m next (aheads.Kept orb) = checks (record (turned m next) { orb = orb })

  follows : (m : Machine) (next : OrbPointer) → Does (follow_step m next)
  follows m (At next) = turns m next m.ahead
  follows m Null = pick m.doorbell (reread_step m) (quiet, record m { phase = phases.Suspended }) (λ rows. tt) (λ rows. tt)

  status_writes : (m : Machine) (failure : Option FailCause) → Does (status_written m failure)
  status_writes m (Some cause) = λ rows. tt
  status_writes m None = follows m m.orb.next

  next_reads : (m : Machine) (read : Result (List ℕ) FailCause) → Does (next_read m read)
  next_reads m (Err cause) = λ rows. tt
  next_reads m (Ok bytes) = follows (record m { orb = record m.orb { next = pointer_at bytes 0 } }) (pointer_at bytes 0)

  main_writes : (phase : Phase) (m : Machine) (answer : Answer) → m.phase ≡ phase → Does (advanced phase m answer)
  main_writes phases.Fetching m answer e = orb_reads m (payload_of answer 32)
  main_writes phases.ReadingTable m answer e = table_reads m (payload_of answer (8 * m.orb.data_size))
  main_writes (phases.ReadingData wanted) m answer e = data_reads m wanted (payload_of answer (chunk_of m (length m.payload) wanted).length)
  main_writes phases.Answering m answer e = chunk_writes m (write_failure answer)
  main_writes phases.WritingStatus m answer e = status_writes m (write_failure answer)
  main_writes phases.ReadingNext m answer e = next_reads m (payload_of answer 8)
  main_writes phases.WritingLastStatus m answer e = λ rows. tt
  main_writes phases.Reset m answer e = λ rows. subst (λ p. WritesIn p m) (sym e) tt
  main_writes phases.Suspended m answer e = λ rows. subst (λ p. WritesIn p m) (sym e) tt
  main_writes phases.Dead m answer e = λ rows. subst (λ p. WritesIn p m) (sym e) tt

ahead_reads : (m : Machine) (read : Result (List ℕ) FailCause) → IsWriting m → Leaves (ahead_read m read)
ahead_reads m (Ok bytes) h = λ rows. still m (aheads.Kept (command_orb bytes)) m.doorbell m.aborted h
ahead_reads m (Err cause) h = λ rows. still m aheads.Idle (ahead_lost m cause).1.doorbell m.aborted h

reply_writes : (m : Machine) (place : ℕ) (plain : PlainDisk) (told : Option Told) (which : Which) (answer : Answer) → IsWriting m → Leaves (reply_step m place plain told which answer)
unfolding reply_step
reply_writes m place plain told Main answer h = main_writes place plain (told_or told) m.phase m answer refl
reply_writes m place plain told Ahead answer h = pick (is_ahead m.ahead) _ (quiet, m) (ahead_reads m (payload_of answer 32) h) (λ rows. h)

-- where what it tells may be so, it is
may_rows : (ran : Option Outcome) (m : Machine) (place : ℕ) (plain : PlainDisk) → MayTell ran m place plain → AreRows ran
may_rows None m place plain may sense e = absurd (none-some _ e)
may_rows (Some outcome) m place plain may sense e =
    may_row m.orb.cdb (plan_of m) plain place sense (subst (λ o. MayEnd (check_of m.orb.cdb (plan_of m) plain place) (failure_of plain.medium.is_bay m.orb.cdb) (check_in o)) (same_Some outcome (outcomes.Check sense) e) may.ended)

pub told_writes : (m : Machine) (place : ℕ) (plain : PlainDisk) (told : Option Told) (which : Which) (answer : Answer) → (let s = reply_step m place plain told which answer in MayTell s.0.ran s.1 place plain) → IsWriting m → IsWriting (reply_step m place plain told which answer).1
told_writes m place plain told which answer may h = let s = reply_step m place plain told which answer in reply_writes m place plain told which answer h (may_rows s.0.ran s.1 place plain may)

-- ---- the other calls
main_losses : (phase : Phase) (m : Machine) (cause : FailCause) → IsWriting m → IsWriting (main_lost phase m cause).1
main_losses phases.Fetching m cause h = ends m kinds.Failed (Some cause) (tt, refl)
main_losses phases.ReadingTable m cause h = ends m kinds.Failed (Some cause) (tt, refl)
main_losses (phases.ReadingData wanted) m cause h = ends m kinds.Failed (Some cause) (tt, refl)
main_losses phases.Answering m cause h = ends m kinds.Failed (Some cause) (tt, refl)
main_losses phases.WritingStatus m cause h = tt
main_losses phases.ReadingNext m cause h = tt
main_losses phases.WritingLastStatus m cause h = tt
main_losses phases.Reset m cause h = h
main_losses phases.Suspended m cause h = h
main_losses phases.Dead m cause h = h

pick_lost : (b : Bool) (x y : AgentStep × Machine) → IsWriting x.1 → IsWriting y.1 → IsWriting (cond b x y).1
pick_lost true x y h k = h
pick_lost false x y h k = k

loses : (m : Machine) (which : Which) (cause : FailCause) → IsWriting m → IsWriting (lost_step m which cause).1
unfolding lost_step
loses m Main cause h = main_losses m.phase m cause h
loses m Ahead cause h = pick_lost (is_ahead m.ahead) (ahead_lost m cause) (quiet, m) (still m aheads.Idle (ahead_lost m cause).1.doorbell m.aborted h) h

bell_in : (state : AgentState) (m : Machine) → IsWriting m → IsWriting (doorbell_in state m).1
bell_in states.Active m h = still m m.ahead true m.aborted h
bell_in states.Suspended m h = tt
bell_in states.Reset m h = h
bell_in states.Dead m h = h

bells : (m : Machine) → IsWriting m → IsWriting (doorbell_step m).1
unfolding doorbell_step
bells m h = bell_in (state_in m.phase) m h

pointed_writes : (m : Machine) (pointer : OrbPointer) → IsWriting m → IsWriting (pointed m pointer).1
pointed_writes m Null h = h
pointed_writes m (At next) h = tt

point_at : (state : AgentState) (m : Machine) (pointer : OrbPointer) → IsWriting m → IsWriting (point_in state m pointer).1
point_at states.Reset m pointer h = pointed_writes m pointer h
point_at states.Suspended m pointer h = pointed_writes m pointer h
point_at states.Active m pointer h = h
point_at states.Dead m pointer h = h

points : (m : Machine) (pointer : OrbPointer) → IsWriting m → IsWriting (point_step m pointer).1
unfolding point_step
points m pointer h = point_at (state_in m.phase) m pointer h

resets : (m : Machine) → IsWriting (reset_step m)
unfolding reset_step
resets m = tt

aborts : (m : Machine) (orb : ℕ) → IsWriting m → IsWriting (abort_step m orb)
unfolding abort_step
aborts m orb h = still m m.ahead m.doorbell (abort_step m orb).aborted h

pub writing_closed : IsClosed (λ q m. IsWriting m)
writing_closed = record { reset = λ q m. resets m; abort = λ q m. aborts m; lost = λ q m. loses m; bell = λ q m. bells m; point = λ q m. points m }
