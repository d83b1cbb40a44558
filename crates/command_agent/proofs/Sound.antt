-- Each call leaves an agent sound.
use Rattle.std.proofs.Common.{arith, ◌≡◌, refl, ℕ, ◌+◌, ◌-◌, ◌*◌, ◌≤◌, ◌==◌, ◌&&◌, not, Bool, true, false, cond, List, [], ◌++◌, length, Option, Some, None, Result, Ok, Err}
use Rattle.std.proofs.lemmas.List.{length-append}
use Rattle.orb_layout.specs.declared.ask.FailCause.{FailCause}
use Rattle.orb_layout.specs.declared.ask.FailCause.TheVariants as causes
use Rattle.orb_layout.specs.declared.command.CommandOrb.{CommandOrb}
use Rattle.orb_layout.specs.declared.pointer.OrbPointer.{OrbPointer}
use Rattle.orb_layout.specs.declared.pointer.OrbPointer.TheVariants.{Null, At}
use Rattle.orb_layout.specs.declared.status.StatusKind.{StatusKind}
use Rattle.orb_layout.specs.declared.status.StatusKind.TheVariants as kinds
use Rattle.orb_layout.specs.CommandOrbs.{command_orb}
use Rattle.orb_layout.specs.Pointers.{pointer_at}
use Rattle.orb_layout.specs.Replies.{Answer, payload_of, write_failure}
use Rattle.page_table.specs.declared.fault.PageFault.{PageFault}
use Rattle.page_table.specs.Buffer.{chunk_from}
use Rattle.page_table.specs.Elements.{elements_of, first_fault}
use Rattle.rbc_disk.specs.declared.command.Need.{Need}
use Rattle.rbc_disk.specs.declared.command.Need.TheVariants as needs
use Rattle.rbc_disk.specs.declared.command.Outcome.{Outcome}
use Rattle.rbc_disk.specs.declared.command.Outcome.TheVariants as outcomes
use Rattle.rbc_disk.specs.Units.{PlainDisk}
use Rattle.rbc_disk.specs.Runs.{Told, need_of}
use Rattle.command_agent.specs.declared.phase.Phase.{Phase}
use Rattle.command_agent.specs.declared.phase.Phase.TheVariants as phases
use Rattle.command_agent.specs.declared.phase.ReadAhead.{ReadAhead}
use Rattle.command_agent.specs.declared.phase.ReadAhead.TheVariants as aheads
use Rattle.command_agent.specs.declared.step.AgentStep.{AgentStep}
use Rattle.command_agent.specs.declared.step.Move.{Move}
use Rattle.command_agent.specs.declared.step.Which.{Which}
use Rattle.command_agent.specs.declared.step.Which.TheVariants.{Main, Ahead}
use Rattle.command_agent.specs.Machine.{Machine, Holds, IsSound, IsTabled, IsFilling, IsAnswering, chunk_of, is_ahead, limit_of, plan_of, state_in}
use Rattle.command_agent.specs.Checks.{reads_table, verdict, death_by}
use Rattle.command_agent.specs.Steps.{IsJudgeable, quiet, end_step, dead_step, with_ahead, ahead_of, answer_chunk, answer_step, data_step, data_grown, ran_as, run_step, judged, judge_step, unread_buffer, checked, check_step, served, orb_read, table_read, elements_read, data_read, chunk_written, turned, turn_step, reread_step, follow_step, status_written, next_read, advanced, told_or, ahead_read, ahead_lost, reply_step, main_lost, lost_step, point_in, point_step, pointed, doorbell_in, doorbell_step, reset_step, abort_step}
use Rattle.command_agent.proofs.Fits.{filled_by}
use Rattle.command_agent.specs.Making.{MayTellSo}
use Rattle.command_agent.specs.Sound.{CallsKeepSound}
use Rattle.command_agent.proofs.Making.Checks.{tells_before}
use Rattle.command_agent.proofs.Making.Chunks.{size_small}
use Rattle.command_agent.proofs.Making.Replies.{read_size}
use Rattle.command_agent.proofs.Making.Runs.{either, ran_fits}
use Rattle.command_agent.proofs.Passing.{passes}

abbrev Step : Type 0
Step = AgentStep × Machine

abbrev Leaves : Step → Type 0
Leaves s = IsSound s.1

-- ---- the steps
ends : (m : Machine) (kind : StatusKind) (dead : Option FailCause) → Leaves (end_step m kind dead)
ends m kind None = record { holds = tt }
ends m kind (Some cause) = record { holds = tt }

dies : (m : Machine) (cause : FailCause) → Leaves (dead_step m cause)
dies m cause = record { holds = tt }

fills : (m : Machine) (wanted : ℕ) → IsFilling m wanted → Leaves (data_step m wanted)
fills m wanted f = record { holds = record { within = f.within; fits = f.fits; room = f.room; whole = f.whole; limit = f.limit } }

writes : (m : Machine) → IsAnswering m → Leaves (answer_step m)
writes m a = record { holds = record { within = a.within; fits = a.fits; limit = a.limit } }

module _ (place : ℕ) (plain : PlainDisk) (told : Told) where
  -- what holds where a run may have told so
  abbrev Sound : Step → Type 0
  Sound s = MayTellSo s place plain → Leaves s

  runs : (m : Machine) → m.orb.max_payload ≤ 9 → Sound (run_step m told)
  runs m limit may = by told.outcome may
    where
      on : Machine
      on = record m { answer = told.answer; written = 0 }

      good : (len : ℕ) (b : Bool) → (len == 0) ≡ b → MayTellSo (record quiet { ran = Some (outcomes.Good len) }, (ran_as on (outcomes.Good len)).1) place plain → Leaves (cond b (end_step on kinds.Good None) (answer_step on))
      good len true e may = ends on kinds.Good None
      good len false e may =
          let fits = ran_fits (outcomes.Good len) on place plain may in
          let size = fits.0 in
          let room = fits.1 in
          writes on (record { within = omega arith; fits = omega (arith, size, room); limit = limit })

      by : (outcome : Outcome) → MayTellSo (record quiet { ran = Some outcome }, (ran_as on outcome).1) place plain → Leaves (ran_as on outcome)
      by (outcomes.Check sense) may = ends on (kinds.Check sense) None
      by (outcomes.Good len) may = good len (len == 0) refl may

  judges_as : (m : Machine) (need : Need) → need_of m.orb.cdb (plan_of m) plain place ≡ need → IsJudgeable m → Sound (judged m told need)
  judges_as m needs.RunNow e j may = runs m j.limit may
  judges_as m (needs.Payload wanted) e j may = fills m wanted (filled_by m plain place wanted j e)

  judges : (m : Machine) → IsJudgeable m → Sound (judge_step m place plain told)
  judges m j may = judges_as m (need_of m.orb.cdb (plan_of m) plain place) refl j may

  -- ---- the checks, with the read ahead behind them
  table_read_by : (orb : CommandOrb) → reads_table orb ≡ true → orb.has_table ≡ true
  table_read_by orb e = first orb.has_table (not (orb.data_size == 0)) e
    where
      first : (a b : Bool) → (a && b) ≡ true → a ≡ true
      first true b h = refl
      first false b h = cc h

  checks_as : (m : Machine) (kind : Option StatusKind) → verdict m.orb m.aborted ≡ kind → m.payload ≡ [] → Sound (checked m place plain told kind)
  checks_as m (Some kind) e fresh may = ends m kind (death_by kind)
  checks_as m None e fresh may =
      let p = passes m.orb m.aborted e in
      either Sound (reads_table m.orb) _ (judge_step (record m { segments = unread_buffer m.orb }) place plain told)
      (λ f _. record { holds = record { few = p.few (table_read_by m.orb f); limit = p.limit; fresh = fresh } })
      (λ f. judges (record m { segments = unread_buffer m.orb }) (record { limit = p.limit; fresh = fresh }))
      may

-- a read ahead, a doorbell mark and an abort leave what holds
beside : (phase : Phase) (m : Machine) (ahead : ReadAhead) (doorbell aborted : Bool) → Holds phase m → Holds phase (record m { ahead = ahead; doorbell = doorbell; aborted = aborted })
beside phases.Fetching m ahead doorbell aborted h = h
beside phases.ReadingTable m ahead doorbell aborted h = record { few = h.few; limit = h.limit; fresh = h.fresh }
beside (phases.ReadingData wanted) m ahead doorbell aborted h = record { within = h.within; fits = h.fits; room = h.room; whole = h.whole; limit = h.limit }
beside phases.Answering m ahead doorbell aborted h = record { within = h.within; fits = h.fits; limit = h.limit }
beside phases.Reset m ahead doorbell aborted h = tt
beside _ m ahead doorbell aborted h = tt

still : (m : Machine) (ahead : ReadAhead) (doorbell aborted : Bool) → IsSound m → IsSound (record m { ahead = ahead; doorbell = doorbell; aborted = aborted })
still m ahead doorbell aborted s = record { holds = beside m.phase m ahead doorbell aborted s.holds }

reads_ahead : (dead : Option FailCause) (next : OrbPointer) (s : Step) → Leaves s → Leaves (ahead_of dead next s)
reads_ahead None (At next) s h = still s.1 (aheads.UnderWay s.1.doorbell) false s.1.aborted h
reads_ahead None Null s h = h
reads_ahead (Some cause) next s h = h

module _ (place : ℕ) (plain : PlainDisk) (told : Told) where
  checks : (m : Machine) → m.payload ≡ [] → Sound place plain told (with_ahead (check_step m place plain told))
  checks m fresh may =
      let s : Step = check_step m place plain told in
      reads_ahead s.0.dead s.1.orb.next s (checks_as place plain told m (verdict m.orb m.aborted) refl fresh (tells_before s.0.dead s.1.orb.next s place plain may))

  -- ---- a reply
  abbrev Does : Move × Machine → Type 0
  Does s = Sound place plain told (served place plain told s.0 s.1)

  orb_sound : (m : Machine) (read : Result (List ℕ) FailCause) → m.payload ≡ [] → Does (orb_read m read)
  orb_sound m (Err cause) fresh may = ends m kinds.Failed (Some cause)
  orb_sound m (Ok bytes) fresh may = checks (record m { orb = command_orb bytes }) fresh may

  elements_sound : (m : Machine) (bytes : List ℕ) (fault : Option PageFault) → IsTabled m → Does (elements_read m bytes fault)
  elements_sound m bytes (Some fault) t may = ends m (kinds.Illegal 0xff) (Some causes.Grammar)
  elements_sound m bytes None t may = judges place plain told (record m { segments = elements_of bytes }) (record { limit = t.limit; fresh = t.fresh }) may

  table_sound : (m : Machine) (read : Result (List ℕ) FailCause) → IsTabled m → Does (table_read m read)
  table_sound m (Err cause) t may = ends m kinds.Failed (Some cause)
  table_sound m (Ok bytes) t may =
      either Does m.aborted _ _ (λ _ _. ends m kinds.Aborted None) (λ _. elements_sound m bytes (first_fault 0 (elements_of bytes)) t) may

  data_sound : (m : Machine) (wanted : ℕ) (read : Result (List ℕ) FailCause) → IsFilling m wanted → ((bytes : List ℕ) → read ≡ Ok bytes → length bytes ≡ (chunk_of m (length m.payload) wanted).length) → Does (data_read m wanted read)
  data_sound m wanted (Err cause) f size may = ends m kinds.Failed (Some cause)
  data_sound m wanted (Ok bytes) f size may =
      let more : Machine = record m { payload = m.payload ++ bytes } in
      let grown = length-append m.payload bytes in
      let chunk = size bytes refl in
      let small = size_small (wanted - length m.payload) (chunk_from m.segments (length m.payload) (limit_of m.orb)) in
      let within = f.within in
      let whole : IsFilling more wanted = record { within = omega (arith, grown, chunk, small, within); fits = f.fits; room = f.room; whole = f.whole; limit = f.limit } in
      either Does m.aborted _ (data_grown more wanted) (λ _ _. ends m kinds.Aborted None)
      (λ _. either Does (length more.payload == wanted) _ _ (λ _. runs place plain told more f.limit) (λ _ _. fills more wanted whole))
      may

  chunk_sound : (m : Machine) (failure : Option FailCause) → IsAnswering m → Does (chunk_written m failure)
  chunk_sound m (Some cause) a may = ends m kinds.Failed (Some cause)
  chunk_sound m None a may =
      let on : Machine = record m { written = m.written + answer_chunk m } in
      let small = size_small (length m.answer - m.written) (chunk_from m.segments m.written (limit_of m.orb)) in
      let within = a.within in
      either Leaves (on.written == length on.answer) _ _ (λ _. ends on kinds.Good None)
      (λ _. writes on (record { within = omega (arith, small, within); fits = a.fits; limit = a.limit }))

  turn_sound : (m : Machine) (next : ℕ) (ahead : ReadAhead) → Does (turn_step m next ahead)
  turn_sound m next aheads.Idle may = record { holds = refl }
  turn_sound m next (aheads.UnderWay rung) may = record { holds = refl }
  turn_sound m next (aheads.Kept orb) may = checks (record (turned m next) { orb = orb }) refl may

  follow_sound : (m : Machine) (next : OrbPointer) → Does (follow_step m next)
  follow_sound m (At next) may = turn_sound m next m.ahead may
  follow_sound m Null may = either Leaves m.doorbell (reread_step m) (quiet, record m { phase = phases.Suspended }) (λ _. record { holds = tt }) (λ _. record { holds = tt })

  status_sound : (m : Machine) (failure : Option FailCause) → Does (status_written m failure)
  status_sound m (Some cause) may = dies m cause
  status_sound m None may = follow_sound m m.orb.next may

  next_sound : (m : Machine) (read : Result (List ℕ) FailCause) → Does (next_read m read)
  next_sound m (Err cause) may = dies m cause
  next_sound m (Ok bytes) may = follow_sound (record m { orb = record m.orb { next = pointer_at bytes 0 } }) (pointer_at bytes 0) may

  main_sound : (phase : Phase) (m : Machine) (answer : Answer) → m.phase ≡ phase → Holds phase m → Does (advanced phase m answer)
  main_sound phases.Fetching m answer e h = orb_sound m (payload_of answer 32) h
  main_sound phases.ReadingTable m answer e h = table_sound m (payload_of answer (8 * m.orb.data_size)) h
  main_sound (phases.ReadingData wanted) m answer e h =
      data_sound m wanted (payload_of answer (chunk_of m (length m.payload) wanted).length) h (λ bytes f. read_size answer (chunk_of m (length m.payload) wanted).length bytes f)
  main_sound phases.Answering m answer e h = chunk_sound m (write_failure answer) h
  main_sound phases.WritingStatus m answer e h = status_sound m (write_failure answer)
  main_sound phases.ReadingNext m answer e h = next_sound m (payload_of answer 8)
  main_sound phases.WritingLastStatus m answer e h = λ may. record { holds = tt }
  main_sound phases.Reset m answer e h = λ may. record { holds = rw e tt }
  main_sound phases.Suspended m answer e h = λ may. record { holds = rw e tt }
  main_sound phases.Dead m answer e h = λ may. record { holds = rw e tt }

-- ---- the read ahead
if_sound : (b : Bool) (m : Machine) (s : Step) → IsSound m → Leaves s → Leaves (cond b s (quiet, m))
if_sound true m s h k = k
if_sound false m s h k = h

ahead_sound : (m : Machine) (read : Result (List ℕ) FailCause) → IsSound m → Leaves (ahead_read m read)
ahead_sound m (Ok bytes) h = still m (aheads.Kept (command_orb bytes)) m.doorbell m.aborted h
ahead_sound m (Err cause) h = still m aheads.Idle (ahead_lost m cause).1.doorbell m.aborted h

replies : (m : Machine) (place : ℕ) (plain : PlainDisk) (told : Option Told) (which : Which) (answer : Answer) → IsSound m → MayTellSo (reply_step m place plain told which answer) place plain → Leaves (reply_step m place plain told which answer)
unfolding reply_step
replies m place plain told Main answer h may = main_sound place plain (told_or told) m.phase m answer refl h.holds may
replies m place plain told Ahead answer h may = if_sound (is_ahead m.ahead) m (ahead_read m (payload_of answer 32)) h (ahead_sound m (payload_of answer 32) h)

-- ---- a transaction that fails
main_lost_sound : (phase : Phase) (m : Machine) (cause : FailCause) → IsSound m → Leaves (main_lost phase m cause)
main_lost_sound phases.Fetching m cause h = ends m kinds.Failed (Some cause)
main_lost_sound phases.ReadingTable m cause h = ends m kinds.Failed (Some cause)
main_lost_sound (phases.ReadingData wanted) m cause h = ends m kinds.Failed (Some cause)
main_lost_sound phases.Answering m cause h = ends m kinds.Failed (Some cause)
main_lost_sound phases.WritingStatus m cause h = dies m cause
main_lost_sound phases.ReadingNext m cause h = dies m cause
main_lost_sound phases.WritingLastStatus m cause h = record { holds = tt }
main_lost_sound phases.Reset m cause h = h
main_lost_sound _ m cause h = h

losses : (m : Machine) (which : Which) (cause : FailCause) → IsSound m → Leaves (lost_step m which cause)
unfolding lost_step
losses m Main cause h = main_lost_sound m.phase m cause h
losses m Ahead cause h = if_sound (is_ahead m.ahead) m (ahead_lost m cause) h (still m aheads.Idle (ahead_lost m cause).1.doorbell m.aborted h)

-- ---- registers and cuts
pointed_sound : (m : Machine) (pointer : OrbPointer) → IsSound m → IsSound (pointed m pointer).1
pointed_sound m Null h = h
pointed_sound m (At next) h = record { holds = refl }

points_in : (phase : Phase) (m : Machine) (pointer : OrbPointer) → IsSound m → IsSound (point_in (state_in phase) m pointer).1
points_in phases.Reset m pointer h = pointed_sound m pointer h
points_in phases.Suspended m pointer h = pointed_sound m pointer h
points_in phases.Fetching m pointer h = h
points_in _ m pointer h = h

points : (m : Machine) (pointer : OrbPointer) → IsSound m → IsSound (point_step m pointer).1
unfolding point_step
points m pointer h = points_in m.phase m pointer h

rings_in : (phase : Phase) (m : Machine) → IsSound m → IsSound (doorbell_in (state_in phase) m).1
rings_in phases.Reset m h = h
rings_in phases.Dead m h = h
rings_in phases.WritingLastStatus m h = h
rings_in phases.Suspended m h = record { holds = tt }
rings_in phases.Fetching m h = still m m.ahead true m.aborted h
rings_in _ m h = still m m.ahead true m.aborted h

rings : (m : Machine) → IsSound m → IsSound (doorbell_step m).1
unfolding doorbell_step
rings m h = rings_in m.phase m h

cuts : (m : Machine) → IsSound (reset_step m)
unfolding reset_step
cuts m = record { holds = tt }

marks : (m : Machine) (orb : ℕ) → IsSound m → IsSound (abort_step m orb)
unfolding abort_step
marks m orb h = still m m.ahead m.doorbell (abort_step m orb).aborted h

pub calls_keep_sound : CallsKeepSound
calls_keep_sound m h = record {
  replies = λ place plain told which answer may. replies m place plain told which answer h may;
  losses = λ which cause. losses m which cause h;
  pointers = λ pointer. points m pointer h;
  doorbells = rings m h;
  resets = cuts m;
  aborts = λ orb. marks m orb h;
}
