-- What a reply makes of an agent whose ORB is still to be read: behind it the ORB has no next pointer, nothing is read ahead, and where the read ahead became the main transaction nothing was got of it.
use Rattle.std.proofs.Common.{◌≡◌, ◌∙◌, refl, sym, ap, ℕ, ◌+◌, ◌*◌, ◌==◌, Bool, true, false, cond, List, ◌++◌, length, Option, Some, None, Result, Ok, Err}
use Rattle.orb_layout.specs.declared.ask.Ask.{Ask}
use Rattle.orb_layout.specs.declared.ask.Ask.TheVariants.{Nothing, Read}
use Rattle.orb_layout.specs.declared.ask.FailCause.{FailCause}
use Rattle.orb_layout.specs.declared.ask.FailCause.TheVariants as causes
use Rattle.orb_layout.specs.declared.pointer.OrbPointer.{OrbPointer}
use Rattle.orb_layout.specs.declared.pointer.OrbPointer.TheVariants.{At, Null}
use Rattle.orb_layout.specs.declared.status.StatusKind.{StatusKind}
use Rattle.orb_layout.specs.declared.status.StatusKind.TheVariants as kinds
use Rattle.orb_layout.specs.Pointers.{pointer_at}
use Rattle.orb_layout.specs.Replies.{Answer, Done, Expired, NoLabel, Payload, Refused, payload_of, write_failure}
use Rattle.page_table.specs.declared.fault.PageFault.{PageFault}
use Rattle.page_table.specs.Elements.{elements_of, first_fault}
use Rattle.rbc_disk.specs.declared.command.Need.{Need}
use Rattle.rbc_disk.specs.declared.command.Need.TheVariants as needs
use Rattle.rbc_disk.specs.declared.command.Outcome.{Outcome}
use Rattle.rbc_disk.specs.declared.command.Outcome.TheVariants as outcomes
use Rattle.rbc_disk.specs.Runs.{Told, need_of}
use Rattle.rbc_disk.specs.Units.{PlainDisk}
use Rattle.command_agent.specs.Checks.{death_by, reads_table, verdict}
use Rattle.command_agent.specs.Machine.{Machine, chunk_of, is_ahead, is_sent, plan_of, state_in}
use Rattle.command_agent.specs.Steps.{advanced, ahead_lost, ahead_of, ahead_read, ahead_step, answer_chunk, answer_step, asks, check_step, checked, chunk_written, data_grown, data_read, data_step, dead_step, doorbell_in, doorbell_step, elements_read, end_step, follow_step, judge_step, judged, lost_step, main_lost, next_read, orb_read, point_in, point_step, pointed, quiet, ran_as, reply_step, reread_step, run_step, sent, served, status_written, table_read, told_or, turn_step, unread_buffer, wait_step}
use Rattle.command_agent.specs.declared.phase.Phase.{Phase}
use Rattle.command_agent.specs.declared.phase.Phase.TheVariants as phases
use Rattle.command_agent.specs.declared.phase.ReadAhead.{ReadAhead}
use Rattle.command_agent.specs.declared.phase.ReadAhead.TheVariants as aheads
use Rattle.command_agent.specs.declared.step.AgentStep.{AgentStep}
use Rattle.command_agent.specs.declared.step.Move.{Move}
use Rattle.command_agent.specs.declared.step.Move.TheVariants as moves
use Rattle.command_agent.specs.declared.step.PointRefusal.{PointRefusal}
use Rattle.command_agent.specs.declared.step.Which.TheVariants.{Ahead, Main}
use Rattle.sbp_laws.specs.Progress.{Progress, first_pointer, gets_main, turns, with_next}
use Rattle.sbp_laws.specs.Targets.{is_nothing}
use Rattle.sbp_world.proofs.Common.{untrue}
use Rattle.sbp_world.proofs.Lists.OrbSteps.{has_read}
use Rattle.turn_laws.proofs.NextSteps.{IsTracked, keeps_orb, null_idle}

abbrev pub is_fetching : Phase → Bool
is_fetching phases.Fetching = true
is_fetching phase = false

-- behind a step, where a read ahead was under way, or none
pub record Brings (some : Bool) (now : Progress) (s : AgentStep × Machine) : Type 0 where
  pub unread : is_fetching s.1.phase ≡ true → (s.1.orb.next ≡ Null) × ((is_ahead s.1.ahead ≡ false) × (is_nothing s.0.ahead ≡ true))
  pub promoted : s.0.promoted ≡ true → (some ≡ true → now.next ≡ Null) × ((is_sent s.1.phase ≡ true) × (is_nothing s.0.ask ≡ true))
  pub ahead : s.0.promoted ≡ false → is_ahead s.1.ahead ≡ true → some ≡ true → now.ahead ≡ Some Null

-- a step that turns to no ORB
abbrev Plain : AgentStep × Machine → Type 0
Plain s = (is_fetching s.1.phase ≡ false) × (s.0.promoted ≡ false)

ends : (m : Machine) (kind : StatusKind) (dead : Option FailCause) → Plain (end_step m kind dead)
ends m kind None = (refl, refl)
ends m kind (Some cause) = (refl, refl)

either : (b : Bool) (x y : AgentStep × Machine) → Plain x → Plain y → Plain (cond b x y)
either true x y h i = h
either false x y h i = i

ran_plain : (m : Machine) (outcome : Outcome) → Plain (ran_as m outcome)
ran_plain m (outcomes.Check sense) = ends m (kinds.Check sense) None
ran_plain m (outcomes.Good len) = either (len == 0) (end_step m kinds.Good None) (answer_step m) (ends m kinds.Good None) (refl, refl)

with_plain : (outcome : Outcome) (s : AgentStep × Machine) → Plain s → Plain (record s.0 { ran = Some outcome }, s.1)
with_plain outcome s h = (h.0, h.1)

run_plain : (m : Machine) (told : Told) → Plain (run_step m told)
run_plain m told = let n = record m { answer = told.answer; written = 0 } in with_plain told.outcome (ran_as n told.outcome) (ran_plain n told.outcome)

need_plain : (m : Machine) (told : Told) (need : Need) → Plain (judged m told need)
need_plain m told needs.RunNow = run_plain m told
need_plain m told (needs.Payload len) = (refl, refl)

judge_plain : (m : Machine) (place : ℕ) (plain : PlainDisk) (told : Told) → Plain (judge_step m place plain told)
judge_plain m place plain told = need_plain m told (need_of m.orb.cdb (plan_of m) plain place)

check_by : (m : Machine) (place : ℕ) (plain : PlainDisk) (told : Told) (found : Option StatusKind) → Plain (checked m place plain told found)
check_by m place plain told (Some kind) = ends m kind (death_by kind)
check_by m place plain told None =
    let n = record m { segments = unread_buffer m.orb } in
    either (reads_table m.orb) (asks (Read m.orb.descriptor (8 * m.orb.data_size)), record m { phase = phases.ReadingTable }) (judge_step n place plain told) (refl, refl) (judge_plain n place plain told)

ahead_plain : (dead : Option FailCause) (next : OrbPointer) (s : AgentStep × Machine) → Plain s → Plain (ahead_of dead next s)
ahead_plain None (At next) s h = (h.0, h.1)
ahead_plain None Null s h = h
ahead_plain (Some cause) next s h = h

module _ (some : Bool) (now : Progress) where
  -- what was under way was sent, and nothing got of it
  abbrev Waits : Type 0
  Waits = some ≡ true → now.ahead ≡ Some Null

  plainly : (s : AgentStep × Machine) → Plain s → Waits → Brings some now s
  plainly s p h = record { unread = λ x. untrue (sym p.0 ∙ x); promoted = λ x. untrue (sym p.1 ∙ x); ahead = λ x y z. h z }

  idly : (s : AgentStep × Machine) → Plain s → is_ahead s.1.ahead ≡ false → Brings some now s
  idly s p i = record { unread = λ x. untrue (sym p.0 ∙ x); promoted = λ x. untrue (sym p.1 ∙ x); ahead = λ x y z. untrue (sym i ∙ y) }

  abbrev Moves : Move × Machine → Type 0
  Moves (moves.Send step, m) = Brings some now (step, m)
  Moves (moves.Check, m) = Waits
  Moves (moves.Judge, m) = Waits
  Moves (moves.Run, m) = Waits

  serves : (place : ℕ) (plain : PlainDisk) (told : Told) (r : Move × Machine) → Moves r → Brings some now (served place plain told r.0 r.1)
  serves place plain told (moves.Send step, m) h = h
  serves place plain told (moves.Check, m) h =
      let s = check_step m place plain told in plainly (ahead_of s.0.dead s.1.orb.next s) (ahead_plain s.0.dead s.1.orb.next s (check_by m place plain told (verdict m.orb m.aborted))) h
  serves place plain told (moves.Judge, m) h = plainly (judge_step m place plain told) (judge_plain m place plain told) h
  serves place plain told (moves.Run, m) h = plainly (run_step m told) (run_plain m told) h

  pick : (b : Bool) (x y : Move × Machine) → Moves x → Moves y → Moves (cond b x y)
  pick true x y h i = h
  pick false x y h i = i

  fails : (m : Machine) (cause : FailCause) → Waits → Moves (sent (end_step m kinds.Failed (Some cause)))
  fails m cause h = plainly (end_step m kinds.Failed (Some cause)) (ends m kinds.Failed (Some cause)) h

  dies : (m : Machine) (cause : FailCause) → Moves (sent (dead_step m cause))
  dies m cause = idly (dead_step m cause) (refl, refl) refl

  fetched : (m : Machine) (r : Result (List ℕ) FailCause) → Waits → Moves (orb_read m r)
  fetched m (Err cause) h = fails m cause h
  fetched m (Ok bytes) h = h

  by_fault : (m : Machine) (bytes : List ℕ) (fault : Option PageFault) → Waits → Moves (elements_read m bytes fault)
  by_fault m bytes None h = h
  by_fault m bytes (Some fault) h = plainly (end_step m (kinds.Illegal 0xff) (Some causes.Grammar)) (ends m (kinds.Illegal 0xff) (Some causes.Grammar)) h

  aborts : (m : Machine) → Waits → Moves (sent (end_step m kinds.Aborted None))
  aborts m h = plainly (end_step m kinds.Aborted None) (ends m kinds.Aborted None) h

  tabled : (m : Machine) (r : Result (List ℕ) FailCause) → Waits → Moves (table_read m r)
  tabled m (Err cause) h = fails m cause h
  tabled m (Ok bytes) h = let fault = first_fault 0 (elements_of bytes) in pick m.aborted (sent (end_step m kinds.Aborted None)) (elements_read m bytes fault) (aborts m h) (by_fault m bytes fault h)

  filled : (m : Machine) (wanted : ℕ) (r : Result (List ℕ) FailCause) → Waits → Moves (data_read m wanted r)
  filled m wanted (Err cause) h = fails m cause h
  filled m wanted (Ok bytes) h =
      let n = record m { payload = m.payload ++ bytes } in
      pick m.aborted (sent (end_step m kinds.Aborted None)) (data_grown n wanted) (aborts m h) (pick (length n.payload == wanted) (moves.Run, n) (sent (data_step n wanted)) h (plainly (data_step n wanted) (refl, refl) h))

  chunked : (m : Machine) (failure : Option FailCause) → Waits → Moves (chunk_written m failure)
  chunked m (Some cause) h = fails m cause h
  chunked m None h =
      let n = record m { written = m.written + answer_chunk m } in
      plainly (cond (n.written == length n.answer) (end_step n kinds.Good None) (answer_step n))
      (either (n.written == length n.answer) (end_step n kinds.Good None) (answer_step n) (ends n kinds.Good None) (refl, refl)) h

  -- ---- behind an ORB
  waits : (m : Machine) → m.ahead ≡ aheads.Idle → Brings some now (wait_step m)
  waits m i = by m.doorbell
    where
      by : (b : Bool) → Brings some now (cond b (reread_step m) (quiet, record m { phase = phases.Suspended }))
      by true = idly (reread_step m) (refl, refl) (ap is_ahead i)
      by false = idly (quiet, record m { phase = phases.Suspended }) (refl, refl) (ap is_ahead i)

  turned_by : (m : Machine) (next : ℕ) (ahead : ReadAhead) → (is_ahead ahead ≡ true → some ≡ true → now.next ≡ Null) → (some ≡ true → keeps_orb ahead ≡ false) → Moves (turn_step m next ahead)
  turned_by m next aheads.Idle f g = record { unread = λ x. (refl, (refl, refl)); promoted = λ x. untrue x; ahead = λ x y. untrue y }
  turned_by m next (aheads.UnderWay rung) f g = record { unread = λ x. (refl, (refl, refl)); promoted = λ x. (f refl, (refl, refl)); ahead = λ x. untrue (sym x) }
  turned_by m next (aheads.Kept orb) f g = λ x. untrue (sym (g x))

  follows : (m : Machine) (next : OrbPointer) → (is_ahead m.ahead ≡ true → some ≡ true → now.next ≡ Null) → (some ≡ true → keeps_orb m.ahead ≡ false) → (next ≡ Null → m.ahead ≡ aheads.Idle) → Moves (follow_step m next)
  follows m (At next) f g i = turned_by m next m.ahead f g
  follows m Null f g i = waits m (i refl)

  next_got : (m : Machine) (r : Result (List ℕ) FailCause) → m.ahead ≡ aheads.Idle → Moves (next_read m r)
  next_got m (Err cause) i = dies m cause
  next_got m (Ok bytes) i =
      let next = pointer_at bytes 0 in
      follows (record m { orb = record m.orb { next = next } }) next (λ x y. untrue (sym (ap is_ahead i) ∙ x)) (λ x. ap keeps_orb i) (λ x. i)

-- ---- the reply to the main transaction
next_only : (got : Option OrbPointer) (p : Progress) → (with_next got p).ahead ≡ p.ahead
next_only None p = refl
next_only (Some next) p = refl

fetch_ahead : (answer : Answer) (p : Progress) → (gets_main phases.Fetching answer p).ahead ≡ p.ahead
fetch_ahead (Payload bytes) p = next_only (first_pointer 32 bytes) p
fetch_ahead Done p = refl
fetch_ahead (Refused rcode) p = refl
fetch_ahead Expired p = refl
fetch_ahead NoLabel p = refl

module _ (some : Bool) (p : Progress) (m : Machine) (t : IsTracked p m) (sent_ahead : some ≡ true → p.ahead ≡ Some Null) (free : some ≡ true → keeps_orb m.ahead ≡ false) where
  status_moves : (answer : Answer) → Moves some (gets_main phases.WritingStatus answer p) (status_written m (write_failure answer))
  status_moves (Payload bytes) = dies some p m causes.Grammar
  status_moves (Refused rcode) = dies some p m causes.Refused
  status_moves Expired = dies some p m causes.Timeout
  status_moves NoLabel = dies some p m causes.Label
  status_moves Done = follows some (turns p.ahead p) m m.orb.next (λ x y. ap (λ got. (turns got p).next) (sent_ahead y)) free (λ e. null_idle p.ahead m.orb.next m.ahead e t.ahead)

  main_moves : (phase : Phase) (answer : Answer) → m.phase ≡ phase → Moves some (gets_main phase answer p) (advanced phase m answer)
  main_moves phases.Fetching answer e = fetched some (gets_main phases.Fetching answer p) m (payload_of answer 32) (λ x. fetch_ahead answer p ∙ sent_ahead x)
  main_moves phases.ReadingTable answer e = tabled some p m (payload_of answer (8 * m.orb.data_size)) sent_ahead
  main_moves (phases.ReadingData wanted) answer e = filled some p m wanted (payload_of answer (chunk_of m (length m.payload) wanted).length) sent_ahead
  main_moves phases.Answering answer e = chunked some p m (write_failure answer) sent_ahead
  main_moves phases.WritingStatus answer e = status_moves answer
  main_moves phases.ReadingNext answer e = next_got some (gets_main phases.ReadingNext answer p) m (payload_of answer 8) (t.idle (ap has_read e))
  main_moves phases.WritingLastStatus answer e = plainly some p (quiet, record m { phase = phases.Dead }) (refl, refl) sent_ahead
  main_moves phases.Reset answer e = plainly some p (quiet, m) (ap is_fetching e, refl) sent_ahead
  main_moves phases.Suspended answer e = plainly some p (quiet, m) (ap is_fetching e, refl) sent_ahead
  main_moves phases.Dead answer e = plainly some p (quiet, m) (ap is_fetching e, refl) sent_ahead

  pub main_brings : (place : ℕ) (plain : PlainDisk) (told : Option Told) (answer : Answer) → Brings some (gets_main m.phase answer p) (reply_step m place plain told Main answer)
  unfolding reply_step
  main_brings place plain told answer = serves some (gets_main m.phase answer p) place plain (told_or told) (advanced m.phase m answer) (main_moves m.phase answer refl)

-- ---- and to the read ahead, which leaves the ORB
pub record Leaves (m : Machine) (s : AgentStep × Machine) : Type 0 where
  pub phase : s.1.phase ≡ m.phase
  pub next : s.1.orb.next ≡ m.orb.next
  pub quiet_is : s.0 ≡ quiet

stays : (m : Machine) → Leaves m (quiet, m)
stays m = record { phase = refl; next = refl; quiet_is = refl }

either_leaves : (m : Machine) (b : Bool) (x y : AgentStep × Machine) → Leaves m x → Leaves m y → Leaves m (cond b x y)
either_leaves m true x y h i = h
either_leaves m false x y h i = i

loss_leaves : (m : Machine) (cause : FailCause) → Leaves m (ahead_lost m cause)
loss_leaves m cause = record { phase = refl; next = refl; quiet_is = refl }

read_leaves : (m : Machine) (r : Result (List ℕ) FailCause) → Leaves m (ahead_read m r)
read_leaves m (Ok bytes) = record { phase = refl; next = refl; quiet_is = refl }
read_leaves m (Err cause) = loss_leaves m cause

pub ahead_leaves : (m : Machine) (place : ℕ) (plain : PlainDisk) (told : Option Told) (answer : Answer) → Leaves m (reply_step m place plain told Ahead answer)
unfolding reply_step
ahead_leaves m place plain told answer = either_leaves m (is_ahead m.ahead) (ahead_step m answer) (quiet, m) (read_leaves m (payload_of answer 32)) (stays m)

pub lost_leaves : (m : Machine) (cause : FailCause) → Leaves m (lost_step m Ahead cause)
unfolding lost_step
lost_leaves m cause = either_leaves m (is_ahead m.ahead) (ahead_lost m cause) (quiet, m) (loss_leaves m cause) (stays m)

-- ---- what else is done with an agent
lost_by : (phase : Phase) (m : Machine) (cause : FailCause) → m.phase ≡ phase → Plain (main_lost phase m cause)
lost_by phases.Reset m cause e = (ap is_fetching e, refl)
lost_by phases.Fetching m cause e = (refl, refl)
lost_by phases.ReadingTable m cause e = (refl, refl)
lost_by (phases.ReadingData wanted) m cause e = (refl, refl)
lost_by phases.Answering m cause e = (refl, refl)
lost_by phases.WritingStatus m cause e = (refl, refl)
lost_by phases.ReadingNext m cause e = (refl, refl)
lost_by phases.WritingLastStatus m cause e = (refl, refl)
lost_by phases.Suspended m cause e = (ap is_fetching e, refl)
lost_by phases.Dead m cause e = (ap is_fetching e, refl)

pub lost_plain : (m : Machine) (cause : FailCause) → (let s = lost_step m Main cause in (is_fetching s.1.phase ≡ false) × (s.0.promoted ≡ false))
unfolding lost_step
lost_plain m cause = lost_by m.phase m cause refl

abbrev pub Points : Phase → Result Ask PointRefusal × Machine → Type 0
Points phase (Err refusal, m) = Unit {0}
Points phase (Ok ask, m) = (is_sent phase ≡ false) × ((m.orb.next ≡ Null) × ((is_ahead m.ahead ≡ false) × (is_sent m.phase ≡ true)))

pointed_so : (phase : Phase) (m : Machine) (pointer : OrbPointer) → is_sent phase ≡ false → Points phase (pointed m pointer)
pointed_so phase m Null e = tt
pointed_so phase m (At next) e = (e, (refl, (refl, refl)))

point_by : (phase : Phase) (m : Machine) (pointer : OrbPointer) → Points phase (point_in (state_in phase) m pointer)
point_by phases.Reset m pointer = pointed_so phases.Reset m pointer refl
point_by phases.Suspended m pointer = pointed_so phases.Suspended m pointer refl
point_by phases.Dead m pointer = tt
point_by phases.WritingLastStatus m pointer = tt
point_by phases.Fetching m pointer = tt
point_by phases.ReadingTable m pointer = tt
point_by (phases.ReadingData wanted) m pointer = tt
point_by phases.Answering m pointer = tt
point_by phases.WritingStatus m pointer = tt
point_by phases.ReadingNext m pointer = tt

pub point_so : (m : Machine) (pointer : OrbPointer) → Points m.phase (point_step m pointer)
unfolding point_step
point_so m pointer = point_by m.phase m pointer

-- a doorbell asks for a read where nothing was under way, and leaves the ORB
pub record Rings (m : Machine) (s : Ask × Machine) : Type 0 where
  pub next : s.1.orb.next ≡ m.orb.next
  pub fetches : is_fetching s.1.phase ≡ true → is_fetching m.phase ≡ true
  pub idle : is_sent s.1.phase ≡ false → is_sent m.phase ≡ false
  pub asks : is_nothing s.0 ≡ false → (is_sent m.phase ≡ false) × (is_sent s.1.phase ≡ true)

marks : (m : Machine) → Rings m (Nothing, record m { doorbell = true })
marks m = record { next = refl; fetches = λ e. e; idle = λ e. e; asks = λ e. untrue (sym e) }

none_rung : (m : Machine) → Rings m (Nothing, m)
none_rung m = record { next = refl; fetches = λ e. e; idle = λ e. e; asks = λ e. untrue (sym e) }

ring_by : (phase : Phase) (m : Machine) → m.phase ≡ phase → Rings m (doorbell_in (state_in phase) m)
ring_by phases.Suspended m e = record { next = refl; fetches = λ x. untrue x; idle = λ x. untrue (sym x); asks = λ x. (ap is_sent e, refl) }
ring_by phases.Reset m e = none_rung m
ring_by phases.Dead m e = none_rung m
ring_by phases.WritingLastStatus m e = none_rung m
ring_by phases.Fetching m e = marks m
ring_by phases.ReadingTable m e = marks m
ring_by (phases.ReadingData wanted) m e = marks m
ring_by phases.Answering m e = marks m
ring_by phases.WritingStatus m e = marks m
ring_by phases.ReadingNext m e = marks m

pub ring_so : (m : Machine) → Rings m (doorbell_step m)
unfolding doorbell_step
ring_so m = ring_by m.phase m refl
