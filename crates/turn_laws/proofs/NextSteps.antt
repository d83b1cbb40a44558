-- The next pointer of the ORB that an agent has read is the one that its progress got last, step by step. While the ORB is read and has not ended it is `next`, and of an ORB that
-- was read ahead `ahead`; so an ORB that ends has the src of the pointer that was got last, but where it was still to be read.
use Rattle.std.proofs.Common.{◌≡◌, ◌∙◌, refl, sym, ap, subst, ℕ, ◌+◌, ◌*◌, ◌==◌, is_some, Bool, true, false, cond, List, ◌++◌, length, Option, Some, None, Result, Ok, Err}
use Rattle.orb_layout.specs.declared.ask.Ask.TheVariants.{Nothing, Read}
use Rattle.orb_layout.specs.declared.ask.FailCause.{FailCause}
use Rattle.orb_layout.specs.declared.ask.FailCause.TheVariants as causes
use Rattle.orb_layout.specs.declared.command.CommandOrb.{CommandOrb}
use Rattle.orb_layout.specs.declared.pointer.OrbPointer.{OrbPointer}
use Rattle.orb_layout.specs.declared.pointer.OrbPointer.TheVariants.{At, Null}
use Rattle.orb_layout.specs.declared.status.StatusKind.{StatusKind}
use Rattle.orb_layout.specs.declared.status.StatusKind.TheVariants as kinds
use Rattle.orb_layout.specs.Pointers.{pointer_at}
use Rattle.orb_layout.specs.Replies.{Answer, Done, Expired, NoLabel, Payload, Refused, payload_of, write_failure}
use Rattle.page_table.specs.declared.fault.PageFault.{PageFault}
use Rattle.page_table.specs.Elements.{elements_of, first_fault}
use Rattle.rbc_disk.specs.declared.command.Need.{Need}
use Rattle.rbc_disk.specs.declared.command.Need.TheVariants as needs
use Rattle.rbc_disk.specs.declared.command.Outcome.{Outcome}
use Rattle.rbc_disk.specs.declared.command.Outcome.TheVariants as outcomes
use Rattle.rbc_disk.specs.Runs.{Told, need_of}
use Rattle.rbc_disk.specs.Units.{PlainDisk}
use Rattle.command_agent.specs.Checks.{death_by, reads_table, verdict}
use Rattle.command_agent.specs.Machine.{Machine, chunk_of, is_ahead, new_machine, plan_of, state_in}
use Rattle.command_agent.specs.Steps.{abort_step, advanced, ahead_lost, ahead_of, ahead_read, ahead_step, answer_chunk, answer_step, asks, check_step, checked, chunk_written, data_grown, data_read, data_step, dead_step, doorbell_in, doorbell_step, elements_read, end_step, follow_step, judge_step, judged, lost_step, main_lost, next_read, orb_read, point_in, point_step, pointed, quiet, ran_as, reply_step, reread_step, reset_step, run_step, sent, served, status_written, table_read, told_or, turn_step, unread_buffer, wait_step}
use Rattle.command_agent.specs.declared.phase.Phase.{Phase}
use Rattle.command_agent.specs.declared.phase.Phase.TheVariants as phases
use Rattle.command_agent.specs.declared.phase.ReadAhead.{ReadAhead}
use Rattle.command_agent.specs.declared.phase.ReadAhead.TheVariants as aheads
use Rattle.command_agent.specs.declared.step.AgentState.{AgentState}
use Rattle.command_agent.specs.declared.step.AgentState.TheVariants as states
use Rattle.command_agent.specs.declared.step.AgentStep.{AgentStep}
use Rattle.command_agent.specs.declared.step.Move.{Move}
use Rattle.command_agent.specs.declared.step.Move.TheVariants as moves
use Rattle.command_agent.specs.declared.step.Which.{Which}
use Rattle.command_agent.specs.declared.step.Which.TheVariants.{Ahead, Main}
use Rattle.sbp_laws.specs.Progress.{Progress, gets_ahead, gets_main, turns, with_next}
use Rattle.sbp_laws.specs.Targets.{is_nothing}
use Rattle.sbp_world.proofs.Common.{some_none, untrue}
use Rattle.sbp_world.proofs.Lists.OrbSteps.{has_read, holds_read, yes}

-- ---- what progress says of an agent
pub record Names (next : OrbPointer) : Type 0 where
  pub offset : ℕ
  pub is : next ≡ At offset

pub record NamesKept (next : OrbPointer) (got : Option OrbPointer) (orb : CommandOrb) : Type 0 where
  pub names : Names next
  pub got_is : got ≡ Some orb.next

abbrev pub AheadIs : Option OrbPointer → OrbPointer → ReadAhead → Type 0
AheadIs got next aheads.Idle = Unit {0}
AheadIs got next (aheads.UnderWay rung) = Names next
AheadIs got next (aheads.Kept orb) = NamesKept next got orb

-- an ORB that was read ahead is kept
abbrev pub keeps_orb : ReadAhead → Bool
keeps_orb aheads.Idle = false
keeps_orb (aheads.UnderWay rung) = false
keeps_orb (aheads.Kept orb) = true

pub record IsTracked (p : Progress) (m : Machine) : Type 0 where
  pub main : holds_read m.phase ≡ true → p.next ≡ m.orb.next
  pub ahead : AheadIs p.ahead m.orb.next m.ahead
  pub idle : has_read m.phase ≡ false → m.ahead ≡ aheads.Idle

-- F is what is known of an ORB that was still to be read
pub record Steps (p : Progress) (F : Type 0) (s : AgentStep × Machine) : Type 0 where
  pub tracked : IsTracked p s.1
  pub ended : F → is_some s.0.ended ≡ true → p.next ≡ s.1.orb.next
  pub looks : is_nothing s.0.ahead ≡ false → keeps_orb s.1.ahead ≡ false

pub null_idle : (got : Option OrbPointer) (next : OrbPointer) (ahead : ReadAhead) → next ≡ Null → AheadIs got next ahead → ahead ≡ aheads.Idle
null_idle got next aheads.Idle e h = refl
null_idle got next (aheads.UnderWay rung) e h = absurd (let no : Null ≡ At h.offset = sym e ∙ h.is in cc)
null_idle got next (aheads.Kept orb) e h = absurd (let no : Null ≡ At h.names.offset = sym e ∙ h.names.is in cc)

pub idle_is : (got : Option OrbPointer) (next : OrbPointer) (ahead : ReadAhead) → ahead ≡ aheads.Idle → AheadIs got next ahead
idle_is got next ahead e = subst (AheadIs got next) (sym e) tt

-- an agent whose ORB was read, and has not ended
pub record HasOrb (p : Progress) (m : Machine) : Type 0 where
  pub next : p.next ≡ m.orb.next
  pub ahead : AheadIs p.ahead m.orb.next m.ahead

-- and one that has it still behind a step, if it did not die
pub record Lives (p : Progress) (F : Type 0) (s : AgentStep × Machine) : Type 0 where
  pub steps : Steps p F s
  pub alive : s.0.dead ≡ None → has_read s.1.phase ≡ true

module _ (p : Progress) (F : Type 0) where
  ends : (m : Machine) (kind : StatusKind) (dead : Option FailCause) → HasOrb p m → Lives p F (end_step m kind dead)
  ends m kind None h = record { steps = record { tracked = record { main = λ e. untrue e; ahead = h.ahead; idle = λ e. yes e }; ended = λ f e. h.next; looks = λ x. yes x }; alive = λ d. refl }
  ends m kind (Some cause) h =
      record { steps = record { tracked = record { main = λ e. untrue e; ahead = tt; idle = λ e. refl }; ended = λ f e. h.next; looks = λ x. yes x }; alive = λ d. some_none cause d }

  fails : (m : Machine) (cause : FailCause) → (F → p.next ≡ m.orb.next) → Steps p F (end_step m kinds.Failed (Some cause))
  fails m cause n = record { tracked = record { main = λ e. untrue e; ahead = tt; idle = λ e. refl }; ended = λ f e. n f; looks = λ x. yes x }

  dies : (m : Machine) (cause : FailCause) → Steps p F (dead_step m cause)
  dies m cause = record { tracked = record { main = λ e. untrue e; ahead = tt; idle = λ e. refl }; ended = λ f e. untrue e; looks = λ x. yes x }

  answers : (m : Machine) → HasOrb p m → Lives p F (answer_step m)
  answers m h = record { steps = record { tracked = record { main = λ e. h.next; ahead = h.ahead; idle = λ e. yes e }; ended = λ f e. untrue e; looks = λ x. yes x }; alive = λ d. refl }

  either : (b : Bool) (x y : AgentStep × Machine) → Lives p F x → Lives p F y → Lives p F (cond b x y)
  either true x y h i = h
  either false x y h i = i

  ran : (m : Machine) (outcome : Outcome) → HasOrb p m → Lives p F (ran_as m outcome)
  ran m (outcomes.Check sense) h = ends m (kinds.Check sense) None h
  ran m (outcomes.Good len) h = either (len == 0) (end_step m kinds.Good None) (answer_step m) (ends m kinds.Good None h) (answers m h)

  same_lives : (s : AgentStep × Machine) (outcome : Outcome) → Lives p F s → Lives p F (record s.0 { ran = Some outcome }, s.1)
  same_lives s outcome h = record { steps = record { tracked = h.steps.tracked; ended = h.steps.ended; looks = h.steps.looks }; alive = h.alive }

  runs : (m : Machine) (told : Told) → HasOrb p m → Lives p F (run_step m told)
  runs m told h =
      let n = record m { answer = told.answer; written = 0 } in
      same_lives (ran_as n told.outcome) told.outcome (ran n told.outcome (record { next = h.next; ahead = h.ahead }))

  reads_data : (m : Machine) (wanted : ℕ) → HasOrb p m → Lives p F (data_step m wanted)
  reads_data m wanted h = record { steps = record { tracked = record { main = λ e. h.next; ahead = h.ahead; idle = λ e. yes e }; ended = λ f e. untrue e; looks = λ x. yes x }; alive = λ d. refl }

  by_need : (m : Machine) (told : Told) (need : Need) → HasOrb p m → Lives p F (judged m told need)
  by_need m told needs.RunNow h = runs m told h
  by_need m told (needs.Payload len) h = reads_data m len h

  judges : (m : Machine) (place : ℕ) (plain : PlainDisk) (told : Told) → HasOrb p m → Lives p F (judge_step m place plain told)
  judges m place plain told h = by_need m told (need_of m.orb.cdb (plan_of m) plain place) h

  tables : (m : Machine) → HasOrb p m → Lives p F (asks (Read m.orb.descriptor (8 * m.orb.data_size)), record m { phase = phases.ReadingTable })
  tables m h = record { steps = record { tracked = record { main = λ e. h.next; ahead = h.ahead; idle = λ e. yes e }; ended = λ f e. untrue e; looks = λ x. yes x }; alive = λ d. refl }

  checks : (m : Machine) (place : ℕ) (plain : PlainDisk) (told : Told) (found : Option StatusKind) → HasOrb p m → Lives p F (checked m place plain told found)
  checks m place plain told (Some kind) h = ends m kind (death_by kind) h
  checks m place plain told None h =
      let n = record m { segments = unread_buffer m.orb } in
      either (reads_table m.orb) (asks (Read m.orb.descriptor (8 * m.orb.data_size)), record m { phase = phases.ReadingTable }) (judge_step n place plain told) (tables m h)
      (judges n place plain told (record { next = h.next; ahead = h.ahead }))

  -- behind it the read ahead of the ORB that it names
  looks_ahead : (dead : Option FailCause) (next : OrbPointer) (s : AgentStep × Machine) → s.0.dead ≡ dead → s.1.orb.next ≡ next → Lives p F s → Steps p F (ahead_of dead next s)
  looks_ahead None (At next) s d e h = record {
    tracked = record { main = h.steps.tracked.main; ahead = record { offset = next; is = e }; idle = λ x. yes (sym (h.alive d) ∙ x) };
    ended = h.steps.ended;
    looks = λ x. refl;
  }
  looks_ahead None Null s d e h = h.steps
  looks_ahead (Some cause) next s d e h = h.steps

  -- ---- moves
  abbrev Moves : Move × Machine → Type 0
  Moves (moves.Send step, m) = Steps p F (step, m)
  Moves (moves.Check, m) = HasOrb p m
  Moves (moves.Judge, m) = HasOrb p m
  Moves (moves.Run, m) = HasOrb p m

  serves : (place : ℕ) (plain : PlainDisk) (told : Told) (r : Move × Machine) → Moves r → Steps p F (served place plain told r.0 r.1)
  serves place plain told (moves.Send step, m) h = h
  serves place plain told (moves.Check, m) h =
      let s = check_step m place plain told in looks_ahead s.0.dead s.1.orb.next s refl refl (checks m place plain told (verdict m.orb m.aborted) h)
  serves place plain told (moves.Judge, m) h = (judges m place plain told h).steps
  serves place plain told (moves.Run, m) h = (runs m told h).steps

  pick : (b : Bool) (x y : Move × Machine) → Moves x → Moves y → Moves (cond b x y)
  pick true x y h i = h
  pick false x y h i = i

  fetched : (m : Machine) (r : Result (List ℕ) FailCause) → m.ahead ≡ aheads.Idle → ((bytes : List ℕ) → r ≡ Ok bytes → p.next ≡ pointer_at bytes 0) → ((cause : FailCause) → r ≡ Err cause → F → p.next ≡ m.orb.next) → Moves (orb_read m r)
  fetched m (Err cause) e f n = fails m cause (n cause refl)
  fetched m (Ok bytes) e f n = record { next = f bytes refl; ahead = idle_is p.ahead (pointer_at bytes 0) m.ahead e }

  by_fault : (m : Machine) (bytes : List ℕ) (fault : Option PageFault) → HasOrb p m → Moves (elements_read m bytes fault)
  by_fault m bytes None h = record { next = h.next; ahead = h.ahead }
  by_fault m bytes (Some fault) h = (ends m (kinds.Illegal 0xff) (Some causes.Grammar) h).steps

  tabled : (m : Machine) (r : Result (List ℕ) FailCause) → HasOrb p m → Moves (table_read m r)
  tabled m (Err cause) h = fails m cause (λ f. h.next)
  tabled m (Ok bytes) h =
      let fault = first_fault 0 (elements_of bytes) in
      pick m.aborted (sent (end_step m kinds.Aborted None)) (elements_read m bytes fault) (ends m kinds.Aborted None h).steps (by_fault m bytes fault h)

  filled : (m : Machine) (wanted : ℕ) (r : Result (List ℕ) FailCause) → HasOrb p m → Moves (data_read m wanted r)
  filled m wanted (Err cause) h = fails m cause (λ f. h.next)
  filled m wanted (Ok bytes) h =
      let n = record m { payload = m.payload ++ bytes } in
      let k : HasOrb p n = record { next = h.next; ahead = h.ahead } in
      pick m.aborted (sent (end_step m kinds.Aborted None)) (data_grown n wanted) (ends m kinds.Aborted None h).steps
      (pick (length n.payload == wanted) (moves.Run, n) (sent (data_step n wanted)) k (reads_data n wanted k).steps)

  chunked : (m : Machine) (failure : Option FailCause) → HasOrb p m → Moves (chunk_written m failure)
  chunked m (Some cause) h = fails m cause (λ f. h.next)
  chunked m None h =
      let n = record m { written = m.written + answer_chunk m } in
      let k : HasOrb p n = record { next = h.next; ahead = h.ahead } in
      (either (n.written == length n.answer) (end_step n kinds.Good None) (answer_step n) (ends n kinds.Good None k) (answers n k)).steps

  -- ---- behind an ORB
  quiet_in : (m : Machine) (phase : Phase) → holds_read phase ≡ false → m.ahead ≡ aheads.Idle → IsTracked p (record m { phase = phase })
  quiet_in m phase e i = record { main = λ x. untrue (sym e ∙ x); ahead = idle_is p.ahead m.orb.next m.ahead i; idle = λ x. i }

  waits : (m : Machine) → m.ahead ≡ aheads.Idle → Steps p F (wait_step m)
  waits m i = by m.doorbell
    where
      by : (b : Bool) → Steps p F (cond b (reread_step m) (quiet, record m { phase = phases.Suspended }))
      by true = record { tracked = record { main = λ x. untrue x; ahead = idle_is p.ahead m.orb.next m.ahead i; idle = λ x. i }; ended = λ f e. untrue e; looks = λ x. yes x }
      by false = record { tracked = quiet_in m phases.Suspended refl i; ended = λ f e. untrue e; looks = λ x. yes x }

  turned_by : (m : Machine) (next : ℕ) (ahead : ReadAhead) → ((orb : CommandOrb) → ahead ≡ aheads.Kept orb → p.next ≡ orb.next) → Moves (turn_step m next ahead)
  turned_by m next aheads.Idle f = record { tracked = record { main = λ x. untrue x; ahead = tt; idle = λ x. refl }; ended = λ f e. untrue e; looks = λ x. yes x }
  turned_by m next (aheads.UnderWay rung) f = record { tracked = record { main = λ x. untrue x; ahead = tt; idle = λ x. refl }; ended = λ f e. untrue e; looks = λ x. yes x }
  turned_by m next (aheads.Kept orb) f = record { next = f orb refl; ahead = tt }

  follows : (m : Machine) (next : OrbPointer) → ((orb : CommandOrb) → m.ahead ≡ aheads.Kept orb → p.next ≡ orb.next) → (next ≡ Null → m.ahead ≡ aheads.Idle) → Moves (follow_step m next)
  follows m (At next) f g = turned_by m next m.ahead f
  follows m Null f g = waits m (g refl)

  next_got : (m : Machine) (r : Result (List ℕ) FailCause) → m.ahead ≡ aheads.Idle → Moves (next_read m r)
  next_got m (Err cause) i = dies m cause
  next_got m (Ok bytes) i =
      let next = pointer_at bytes 0 in
      follows (record m { orb = record m.orb { next = next } }) next (λ orb e. absurd (let no : aheads.Idle ≡ aheads.Kept orb = sym i ∙ e in cc)) (λ e. i)

-- ---- the reply to the main transaction
kept_next : (p : Progress) (next : OrbPointer) (ahead : ReadAhead) (orb : CommandOrb) → ahead ≡ aheads.Kept orb → AheadIs p.ahead next ahead → (turns p.ahead p).next ≡ orb.next
kept_next p next ahead orb e h = let k : NamesKept next p.ahead orb = subst (AheadIs p.ahead next) e h in ap (λ x. (turns x p).next) k.got_is

status_moves : (p : Progress) (F : Type 0) (m : Machine) (answer : Answer) → AheadIs p.ahead m.orb.next m.ahead → Moves (gets_main phases.WritingStatus answer p) F (status_written m (write_failure answer))
status_moves p F m (Payload bytes) h = dies p F m causes.Grammar
status_moves p F m (Refused rcode) h = dies p F m causes.Refused
status_moves p F m Expired h = dies p F m causes.Timeout
status_moves p F m NoLabel h = dies p F m causes.Label
status_moves p F m Done h = follows (turns p.ahead p) F m m.orb.next (λ orb e. kept_next p m.orb.next m.ahead orb e h) (λ e. null_idle p.ahead m.orb.next m.ahead e h)

first_is : (bytes : List ℕ) (p : Progress) (b : Bool) → (length bytes == 32) ≡ b → (other : List ℕ) → cond b (Ok bytes) (Err causes.Grammar) ≡ Ok other
    → (gets_main phases.Fetching (Payload bytes) p).next ≡ pointer_at other 0
first_is bytes p true e other f =
    let same : bytes ≡ other = cc in
    ap (λ x. (with_next (cond {A = Option OrbPointer} x (Some (pointer_at bytes 0)) None) p).next) e ∙ ap (λ (x : List ℕ). pointer_at x 0) same
first_is bytes p false e other f = absurd (let no : Err causes.Grammar ≡ Ok other = f in cc)

pub orb_first : (p : Progress) (answer : Answer) (bytes : List ℕ) → payload_of answer 32 ≡ Ok bytes → (gets_main phases.Fetching answer p).next ≡ pointer_at bytes 0
orb_first p (Payload other) bytes e = first_is other p (length other == 32) refl bytes e
orb_first p Done bytes e = absurd (let no : Err causes.Grammar ≡ Ok bytes = e in cc)
orb_first p (Refused rcode) bytes e = absurd (let no : Err causes.Refused ≡ Ok bytes = e in cc)
orb_first p Expired bytes e = absurd (let no : Err causes.Timeout ≡ Ok bytes = e in cc)
orb_first p NoLabel bytes e = absurd (let no : Err causes.Label ≡ Ok bytes = e in cc)

-- one whose read failed brought none
failed_by : (bytes : List ℕ) (p : Progress) (b : Bool) → (length bytes == 32) ≡ b → (cause : FailCause) → cond b (Ok bytes) (Err causes.Grammar) ≡ Err cause → (gets_main phases.Fetching (Payload bytes) p).next ≡ p.next
failed_by bytes p true e cause f = absurd (let no : Ok bytes ≡ Err cause = f in cc)
failed_by bytes p false e cause f = ap (λ x. (with_next (cond {A = Option OrbPointer} x (Some (pointer_at bytes 0)) None) p).next) e

orb_failed : (p : Progress) (answer : Answer) (cause : FailCause) → payload_of answer 32 ≡ Err cause → (gets_main phases.Fetching answer p).next ≡ p.next
orb_failed p (Payload bytes) cause e = failed_by bytes p (length bytes == 32) refl cause e
orb_failed p Done cause e = refl
orb_failed p (Refused rcode) cause e = refl
orb_failed p Expired cause e = refl
orb_failed p NoLabel cause e = refl

-- the next pointer of an ORB that is still to be read was not got either
abbrev pub Unread : Progress → Machine → Type 0
Unread p m = m.phase ≡ phases.Fetching → p.next ≡ m.orb.next

main_moves : (p : Progress) (phase : Phase) (m : Machine) (answer : Answer) → m.phase ≡ phase → IsTracked p m → Moves (gets_main phase answer p) (Unread p m) (advanced phase m answer)
main_moves p phases.Fetching m answer e t = fetched (gets_main phases.Fetching answer p) (Unread p m) m (payload_of answer 32) (t.idle (ap has_read e)) (λ bytes f. orb_first p answer bytes f)
    (λ cause f unread. orb_failed p answer cause f ∙ unread e)
main_moves p phases.ReadingTable m answer e t = tabled p (Unread p m) m (payload_of answer (8 * m.orb.data_size)) (record { next = t.main (ap holds_read e); ahead = t.ahead })
main_moves p (phases.ReadingData wanted) m answer e t =
    filled p (Unread p m) m wanted (payload_of answer (chunk_of m (length m.payload) wanted).length) (record { next = t.main (ap holds_read e); ahead = t.ahead })
main_moves p phases.Answering m answer e t = chunked p (Unread p m) m (write_failure answer) (record { next = t.main (ap holds_read e); ahead = t.ahead })
main_moves p phases.WritingStatus m answer e t = status_moves p (Unread p m) m answer t.ahead
main_moves p phases.ReadingNext m answer e t = next_got (gets_main phases.ReadingNext answer p) (Unread p m) m (payload_of answer 8) (t.idle (ap has_read e))
main_moves p phases.WritingLastStatus m answer e t = record { tracked = quiet_in p (Unread p m) m phases.Dead refl (t.idle (ap has_read e)); ended = λ d f. untrue f; looks = λ x. yes x }
main_moves p phases.Reset m answer e t = record { tracked = t; ended = λ d f. untrue f; looks = λ x. yes x }
main_moves p phases.Suspended m answer e t = record { tracked = t; ended = λ d f. untrue f; looks = λ x. yes x }
main_moves p phases.Dead m answer e t = record { tracked = t; ended = λ d f. untrue f; looks = λ x. yes x }

pub main_tracked : (p : Progress) (m : Machine) (place : ℕ) (plain : PlainDisk) (told : Option Told) (answer : Answer) → IsTracked p m
    → Steps (gets_main m.phase answer p) (Unread p m) (reply_step m place plain told Main answer)
unfolding reply_step
main_tracked p m place plain told answer t = let r = advanced m.phase m answer in serves (gets_main m.phase answer p) (Unread p m) place plain (told_or told) r (main_moves p m.phase m answer refl t)

-- ---- and to the read ahead, which is under way
pub ahead_next : (p : Progress) (answer : Answer) → (gets_ahead answer p).next ≡ p.next
ahead_next p (Payload bytes) = refl
ahead_next p Done = refl
ahead_next p (Refused rcode) = refl
ahead_next p Expired = refl
ahead_next p NoLabel = refl

got_first : (bytes : List ℕ) (p : Progress) (b : Bool) → (length bytes == 32) ≡ b → (other : List ℕ) → cond b (Ok bytes) (Err causes.Grammar) ≡ Ok other
    → (gets_ahead (Payload bytes) p).ahead ≡ Some (pointer_at other 0)
got_first bytes p true e other f =
    let same : bytes ≡ other = cc in
    ap (λ x. cond {A = Option OrbPointer} x (Some (pointer_at bytes 0)) None) e ∙ ap (λ (x : List ℕ). Some (pointer_at x 0)) same
got_first bytes p false e other f = absurd (let no : Err causes.Grammar ≡ Ok other = f in cc)

ahead_got : (p : Progress) (answer : Answer) (bytes : List ℕ) → payload_of answer 32 ≡ Ok bytes → (gets_ahead answer p).ahead ≡ Some (pointer_at bytes 0)
ahead_got p (Payload other) bytes e = got_first other p (length other == 32) refl bytes e
ahead_got p Done bytes e = absurd (let no : Err causes.Grammar ≡ Ok bytes = e in cc)
ahead_got p (Refused rcode) bytes e = absurd (let no : Err causes.Refused ≡ Ok bytes = e in cc)
ahead_got p Expired bytes e = absurd (let no : Err causes.Timeout ≡ Ok bytes = e in cc)
ahead_got p NoLabel bytes e = absurd (let no : Err causes.Label ≡ Ok bytes = e in cc)

names_of : (got : Option OrbPointer) (next : OrbPointer) (ahead : ReadAhead) → is_ahead ahead ≡ true → AheadIs got next ahead → Names next
names_of got next aheads.Idle e h = untrue e
names_of got next (aheads.UnderWay rung) e h = h
names_of got next (aheads.Kept orb) e h = untrue e

-- where none is kept, what was got of it counts for nothing
pub free_is : (got other : Option OrbPointer) (next : OrbPointer) (ahead : ReadAhead) → keeps_orb ahead ≡ false → AheadIs got next ahead → AheadIs other next ahead
free_is got other next aheads.Idle e h = tt
free_is got other next (aheads.UnderWay rung) e h = h
free_is got other next (aheads.Kept orb) e h = yes e

module _ (p : Progress) (m : Machine) (answer : Answer) (free : keeps_orb m.ahead ≡ false) (t : IsTracked p m) where
  abbrev now : Progress
  now = gets_ahead answer p

  read_tracked : is_ahead m.ahead ≡ true → (r : Result (List ℕ) FailCause) → payload_of answer 32 ≡ r → Steps now (Unread p m) (ahead_read m r)
  read_tracked under_way (Ok bytes) e = record {
    tracked = record {
      main = λ x. ahead_next p answer ∙ t.main x;
      ahead = record { names = names_of p.ahead m.orb.next m.ahead under_way t.ahead; got_is = ahead_got p answer bytes e };
      idle = λ x. untrue (sym (ap is_ahead (t.idle x)) ∙ under_way);
    };
    ended = λ d x. untrue x;
    looks = λ x. yes x;
  }
  read_tracked under_way (Err cause) e = record {
    tracked = record { main = λ x. ahead_next p answer ∙ t.main x; ahead = tt; idle = λ x. refl };
    ended = λ d x. untrue x;
    looks = λ x. yes x;
  }

  rests : Steps now (Unread p m) (quiet, m)
  rests = record {
    tracked = record { main = λ x. ahead_next p answer ∙ t.main x; ahead = free_is p.ahead now.ahead m.orb.next m.ahead free t.ahead; idle = t.idle };
    ended = λ d x. untrue x;
    looks = λ x. yes x;
  }

  by_ahead : (b : Bool) → is_ahead m.ahead ≡ b → Steps now (Unread p m) (cond b (ahead_step m answer) (quiet, m))
  by_ahead true e = read_tracked e (payload_of answer 32) refl
  by_ahead false e = rests

  pub ahead_tracked : (place : ℕ) (plain : PlainDisk) (told : Option Told) → Steps now (Unread p m) (reply_step m place plain told Ahead answer)
  unfolding reply_step
  ahead_tracked place plain told = by_ahead (is_ahead m.ahead) refl

-- ---- and at whatever else is done with an agent, its progress stands
module _ (p : Progress) where
  pub none_read : (m : Machine) → holds_read m.phase ≡ false → m.ahead ≡ aheads.Idle → IsTracked p m
  none_read m e i = record { main = λ x. untrue (sym e ∙ x); ahead = idle_is p.ahead m.orb.next m.ahead i; idle = λ x. i }

  forgets : (m : Machine) (cause : FailCause) → IsTracked p m → IsTracked p (ahead_lost m cause).1
  forgets m cause t = record { main = t.main; ahead = tt; idle = λ x. refl }

  either_tracked : (b : Bool) (x y : AgentStep × Machine) → IsTracked p x.1 → IsTracked p y.1 → IsTracked p (cond b x y).1
  either_tracked true x y h i = h
  either_tracked false x y h i = i

  pointed_tracked : (m : Machine) (pointer : OrbPointer) → IsTracked p m → IsTracked p (pointed m pointer).1
  pointed_tracked m Null t = t
  pointed_tracked m (At next) t = record { main = λ x. untrue x; ahead = tt; idle = λ x. refl }

  point_in_tracked : (state : AgentState) (m : Machine) (pointer : OrbPointer) → IsTracked p m → IsTracked p (point_in state m pointer).1
  point_in_tracked states.Reset m pointer t = pointed_tracked m pointer t
  point_in_tracked states.Suspended m pointer t = pointed_tracked m pointer t
  point_in_tracked states.Active m pointer t = t
  point_in_tracked states.Dead m pointer t = t

  pub point_tracked : (m : Machine) (pointer : OrbPointer) → IsTracked p m → IsTracked p (point_step m pointer).1
  unfolding point_step
  point_tracked m pointer t = point_in_tracked (state_in m.phase) m pointer t

  bell_in : (phase : Phase) (m : Machine) → m.phase ≡ phase → IsTracked p m → IsTracked p (doorbell_in (state_in phase) m).1
  bell_in phases.Reset m e t = t
  bell_in phases.Dead m e t = t
  bell_in phases.WritingLastStatus m e t = t
  bell_in phases.Suspended m e t = none_read (reread_step m).1 refl (t.idle (ap has_read e))
  bell_in phases.Fetching m e t = record { main = t.main; ahead = t.ahead; idle = t.idle }
  bell_in phases.ReadingTable m e t = record { main = t.main; ahead = t.ahead; idle = t.idle }
  bell_in (phases.ReadingData wanted) m e t = record { main = t.main; ahead = t.ahead; idle = t.idle }
  bell_in phases.Answering m e t = record { main = t.main; ahead = t.ahead; idle = t.idle }
  bell_in phases.WritingStatus m e t = record { main = t.main; ahead = t.ahead; idle = t.idle }
  bell_in phases.ReadingNext m e t = record { main = t.main; ahead = t.ahead; idle = t.idle }

  pub bell_tracked : (m : Machine) → IsTracked p m → IsTracked p (doorbell_step m).1
  unfolding doorbell_step
  bell_tracked m t = bell_in m.phase m refl t

  main_lost_tracked : (phase : Phase) (m : Machine) (cause : FailCause) → m.phase ≡ phase → IsTracked p m → IsTracked p (main_lost phase m cause).1
  main_lost_tracked phases.Fetching m cause e t = (fails p ⊥ m cause (λ f. absurd f)).tracked
  main_lost_tracked phases.ReadingTable m cause e t = (fails p ⊥ m cause (λ f. absurd f)).tracked
  main_lost_tracked (phases.ReadingData wanted) m cause e t = (fails p ⊥ m cause (λ f. absurd f)).tracked
  main_lost_tracked phases.Answering m cause e t = (fails p ⊥ m cause (λ f. absurd f)).tracked
  main_lost_tracked phases.WritingStatus m cause e t = (dies p ⊥ m cause).tracked
  main_lost_tracked phases.ReadingNext m cause e t = (dies p ⊥ m cause).tracked
  main_lost_tracked phases.WritingLastStatus m cause e t = quiet_in p ⊥ m phases.Dead refl (t.idle (ap has_read e))
  main_lost_tracked phases.Reset m cause e t = t
  main_lost_tracked phases.Suspended m cause e t = t
  main_lost_tracked phases.Dead m cause e t = t

  pub lost_tracked : (m : Machine) (which : Which) (cause : FailCause) → IsTracked p m → IsTracked p (lost_step m which cause).1
  unfolding lost_step
  lost_tracked m Main cause t = main_lost_tracked m.phase m cause refl t
  lost_tracked m Ahead cause t = either_tracked (is_ahead m.ahead) (ahead_lost m cause) (quiet, m) (forgets m cause t) t

  pub reset_tracked : (m : Machine) → IsTracked p (reset_step m)
  unfolding reset_step
  reset_tracked m = record { main = λ x. untrue x; ahead = tt; idle = λ x. refl }

  pub abort_tracked : (m : Machine) (orb : ℕ) → IsTracked p m → IsTracked p (abort_step m orb)
  unfolding abort_step
  abort_tracked m orb t = record { main = t.main; ahead = t.ahead; idle = t.idle }

  pub unheard_tracked : (place : ℕ) (plain : PlainDisk) (told : Option Told) (which : Which) (answer : Answer) → IsTracked p (reply_step new_machine place plain told which answer).1
  unfolding reply_step
  unheard_tracked place plain told Main answer = none_read new_machine refl refl
  unheard_tracked place plain told Ahead answer = none_read new_machine refl refl

-- ---- what is kept ahead
pub abort_ahead : (m : Machine) (orb : ℕ) → (abort_step m orb).ahead ≡ m.ahead
unfolding abort_step
abort_ahead m orb = refl

bell_by : (state : AgentState) (m : Machine) → (doorbell_in state m).1.ahead ≡ m.ahead
bell_by states.Active m = refl
bell_by states.Suspended m = refl
bell_by states.Reset m = refl
bell_by states.Dead m = refl

pub bell_ahead : (m : Machine) → (doorbell_step m).1.ahead ≡ m.ahead
unfolding doorbell_step
bell_ahead m = bell_by (state_in m.phase) m

main_looks : (phase : Phase) (m : Machine) (cause : FailCause) → (main_lost phase m cause).0.ahead ≡ Nothing
main_looks phases.Reset m cause = refl
main_looks phases.Fetching m cause = refl
main_looks phases.ReadingTable m cause = refl
main_looks (phases.ReadingData wanted) m cause = refl
main_looks phases.Answering m cause = refl
main_looks phases.WritingStatus m cause = refl
main_looks phases.ReadingNext m cause = refl
main_looks phases.WritingLastStatus m cause = refl
main_looks phases.Suspended m cause = refl
main_looks phases.Dead m cause = refl

pub lost_looks : (m : Machine) (cause : FailCause) → (lost_step m Main cause).0.ahead ≡ Nothing
unfolding lost_step
lost_looks m cause = main_looks m.phase m cause

free_by : (b : Bool) (m : Machine) (cause : FailCause) → keeps_orb m.ahead ≡ false → keeps_orb (cond b (ahead_lost m cause) (quiet, m)).1.ahead ≡ false
free_by true m cause e = refl
free_by false m cause e = e

pub lost_free : (m : Machine) (cause : FailCause) → keeps_orb m.ahead ≡ false → keeps_orb (lost_step m Ahead cause).1.ahead ≡ false
unfolding lost_step
lost_free m cause e = free_by (is_ahead m.ahead) m cause e

pub unheard_looks : (place : ℕ) (plain : PlainDisk) (told : Option Told) (which : Which) (answer : Answer) → (reply_step new_machine place plain told which answer).0.ahead ≡ Nothing
unfolding reply_step
unheard_looks place plain told Main answer = refl
unheard_looks place plain told Ahead answer = refl
