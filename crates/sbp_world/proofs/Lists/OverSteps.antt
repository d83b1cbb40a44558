-- An agent that writes the status block of an ORB, or is dead, ends none and stays so; or the write of the block is answered with rcode 0, and the agent goes on. A step that ends an ORB leaves it so.
use Rattle.std.proofs.Common.{◌≡◌, ◌∙◌, refl, sym, ap, subst, inl, inr, ◌⊎◌, ◌==◌, ◌*◌, ◌+◌, ℕ, Bool, true, false, cond, List, [], ◌∷◌, ◌++◌, length, Option, Some, None, Result, Ok, Err}
use Rattle.std.proofs.lemmas.Bool.{false≢true}
use Rattle.std.proofs.lemmas.List.{append-nil}
use Rattle.orb_layout.specs.declared.ask.Ask.TheVariants.{Read}
use Rattle.orb_layout.specs.declared.ask.FailCause.{FailCause}
use Rattle.orb_layout.specs.declared.pointer.OrbPointer.{OrbPointer}
use Rattle.orb_layout.specs.declared.pointer.OrbPointer.TheVariants as pointers
use Rattle.orb_layout.specs.declared.pointer.OrbPointer.TheVariants.{Null, At}
use Rattle.orb_layout.specs.Pointers.{pointer_at}
use Rattle.page_table.specs.declared.fault.PageFault.{PageFault}
use Rattle.page_table.specs.Elements.{elements_of, first_fault}
use Rattle.rbc_disk.specs.declared.command.Need.{Need}
use Rattle.rbc_disk.specs.declared.command.Need.TheVariants as needs
use Rattle.rbc_disk.specs.declared.command.Outcome.{Outcome}
use Rattle.rbc_disk.specs.declared.command.Outcome.TheVariants as outcomes
use Rattle.orb_layout.specs.declared.status.StatusKind.{StatusKind}
use Rattle.orb_layout.specs.declared.status.StatusKind.TheVariants as kinds
use Rattle.orb_layout.specs.Replies.{Answer, payload_of, write_failure}
use Rattle.rbc_disk.specs.Runs.{Told, need_of}
use Rattle.rbc_disk.specs.Units.{PlainDisk}
use Rattle.command_agent.specs.Machine.{Machine, chunk_of, is_ahead, plan_of, state_in}
use Rattle.command_agent.specs.Checks.{reads_table, verdict}
use Rattle.command_agent.specs.Steps.{abort_step, advanced, ahead_lost, ahead_of, ahead_read, ahead_step, answer_chunk, answer_grown, answer_step, asks, check_step, checked, chunk_written, data_grown, data_read, data_step, doorbell_in, doorbell_step, elements_read, end_step, follow_step, judge_step, judged, lost_step, main_lost, next_read, orb_read, point_in, point_step, pointed, quiet, ran_as, reply_step, reread_step, reset_step, run_step, sent, served, status_written, table_read, told_or, turn_step, unread_buffer, with_outcome}
use Rattle.command_agent.specs.declared.phase.Phase.{Phase}
use Rattle.command_agent.specs.declared.phase.Phase.TheVariants as phases
use Rattle.command_agent.specs.declared.phase.ReadAhead.{ReadAhead}
use Rattle.command_agent.specs.declared.phase.ReadAhead.TheVariants as aheads
use Rattle.command_agent.specs.declared.step.AgentState.{AgentState}
use Rattle.command_agent.specs.declared.step.AgentState.TheVariants as states
use Rattle.command_agent.specs.declared.step.AgentStep.{AgentStep}
use Rattle.command_agent.specs.declared.step.Move.{Move}
use Rattle.command_agent.specs.declared.step.Move.TheVariants as moves
use Rattle.command_agent.specs.declared.step.Which.{Which}
use Rattle.command_agent.specs.declared.step.Which.TheVariants.{Ahead, Main}
use Rattle.sbp_world.proofs.Words.Std.{IfSome}
use Rattle.sbp_world.proofs.Lists.EndingSteps.{EndsIn, IfEnds, ends_over, is_over, listed}
use Rattle.sbp_world.proofs.Lists.Full.{IsClosed}
use Rattle.sbp_world.proofs.Lists.StatusSteps.{EndsSo}

-- the write of a status block is answered with rcode 0
pub record TurnsOn (phase : Phase) (which : Which) (answer : Answer) : Type 0 where
  pub phase_is : phase ≡ phases.WritingStatus
  pub main : which ≡ Main
  pub done : write_failure answer ≡ None

-- it ends none, and is so still
abbrev pub Rests : AgentStep × Machine → Type 0
Rests s = (s.0.ended ≡ None) × (is_over s.1.phase ≡ true)

either_rests : (b : Bool) (x y : AgentStep × Machine) → Rests x → Rests y → Rests (cond b x y)
either_rests true x y h i = h
either_rests false x y h i = i

ahead_rests : (m : Machine) (bytes : Result (List ℕ) FailCause) → is_over m.phase ≡ true → Rests (ahead_read m bytes)
ahead_rests m (Ok bytes) e = (refl, e)
ahead_rests m (Err cause) e = (refl, e)

-- ---- a reply
main_on : (phase : Phase) (m : Machine) (place : ℕ) (plain : PlainDisk) (told : Told) (answer : Answer) → m.phase ≡ phase → is_over phase ≡ true → Rests (served place plain told (advanced phase m answer).0 (advanced phase m answer).1) ⊎ TurnsOn phase Main answer
main_on phases.WritingStatus m place plain told answer p e = by (write_failure answer) refl
  where
    by : (x : Option FailCause) → write_failure answer ≡ x → Rests (served place plain told (status_written m x).0 (status_written m x).1) ⊎ TurnsOn phases.WritingStatus Main answer
    by (Some cause) f = inl (refl, refl)
    by None f = inr (record { phase_is = refl; main = refl; done = f })
main_on phases.WritingLastStatus m place plain told answer p e = inl (refl, refl)
main_on phases.Dead m place plain told answer p e = inl (refl, ap is_over p)
main_on phases.Reset m place plain told answer p e = absurd (false≢true e)
main_on phases.Fetching m place plain told answer p e = absurd (false≢true e)
main_on phases.ReadingTable m place plain told answer p e = absurd (false≢true e)
main_on (phases.ReadingData wanted) m place plain told answer p e = absurd (false≢true e)
main_on phases.Answering m place plain told answer p e = absurd (false≢true e)
main_on phases.ReadingNext m place plain told answer p e = absurd (false≢true e)
main_on phases.Suspended m place plain told answer p e = absurd (false≢true e)

pub reply_on : (m : Machine) (place : ℕ) (plain : PlainDisk) (told : Option Told) (which : Which) (answer : Answer) → is_over m.phase ≡ true → Rests (reply_step m place plain told which answer) ⊎ TurnsOn m.phase which answer
unfolding reply_step
reply_on m place plain told Main answer e = main_on m.phase m place plain (told_or told) answer refl e
reply_on m place plain told Ahead answer e = inl (either_rests (is_ahead m.ahead) (ahead_step m answer) (quiet, m) (ahead_rests m (payload_of answer 32) e) (refl, e))

-- an ORB ends by a reply to the main transaction alone
either_none : (b : Bool) (x y : AgentStep × Machine) → x.0.ended ≡ None → y.0.ended ≡ None → (cond b x y).0.ended ≡ None
either_none true x y h i = h
either_none false x y h i = i

ahead_none : (m : Machine) (bytes : Result (List ℕ) FailCause) → (ahead_read m bytes).0.ended ≡ None
ahead_none m (Ok bytes) = refl
ahead_none m (Err cause) = refl

pub ends_main : (m : Machine) (place : ℕ) (plain : PlainDisk) (told : Option Told) (which : Which) (answer : Answer) (kind : StatusKind) → (reply_step m place plain told which answer).0.ended ≡ Some kind → which ≡ Main
unfolding reply_step
ends_main m place plain told Main answer kind e = refl
ends_main m place plain told Ahead answer kind e =
    let none = either_none (is_ahead m.ahead) (ahead_step m answer) (quiet, m) (ahead_none m (payload_of answer 32)) refl in
    absurd (let z : None ≡ Some kind = sym none ∙ e in cc)

-- ---- a reply to the main transaction that ends no ORB leaves the agent writing no status block
abbrev is_writing : Phase → Bool
is_writing phases.WritingStatus = true
is_writing _ = false

abbrev IfNone : Option StatusKind → Phase → Type 0
IfNone None phase = is_writing phase ≡ false
IfNone (Some kind) phase = Unit {0}

abbrev Leaves : AgentStep × Machine → Type 0
Leaves s = IfNone s.0.ended s.1.phase

either : (b : Bool) (x y : AgentStep × Machine) → Leaves x → Leaves y → Leaves (cond b x y)
either true x y h i = h
either false x y h i = i

-- ---- a command runs
run_ends : (m : Machine) (told : Told) → Leaves (run_step m told)
run_ends m told = by told.outcome (record m { answer = told.answer; written = 0 })
  where
    good : (b : Bool) (len : ℕ) (n : Machine) → Leaves (with_outcome (outcomes.Good len) (cond b (end_step n kinds.Good None) (answer_step n)))
    good true len n = tt
    good false len n = refl

    by : (outcome : Outcome) (n : Machine) → Leaves (with_outcome outcome (ran_as n outcome))
    by (outcomes.Check sense) n = tt
    by (outcomes.Good len) n = good (len == 0) len n

judge_ends : (m : Machine) (place : ℕ) (plain : PlainDisk) (told : Told) → Leaves (judge_step m place plain told)
judge_ends m place plain told = by (need_of m.orb.cdb (plan_of m) plain place)
  where
    by : (need : Need) → Leaves (judged m told need)
    by needs.RunNow = run_ends m told
    by (needs.Payload len) = refl

-- ---- an ORB is checked, and the one behind it read
check_ends : (m : Machine) (place : ℕ) (plain : PlainDisk) (told : Told) → Leaves (check_step m place plain told)
check_ends m place plain told = by (verdict m.orb m.aborted)
  where
    by : (found : Option StatusKind) → Leaves (checked m place plain told found)
    by (Some kind) = tt
    by None =
        let n = record m { segments = unread_buffer m.orb } in
        either (reads_table m.orb) (asks (Read m.orb.descriptor (8 * m.orb.data_size)), record m { phase = phases.ReadingTable }) (judge_step n place plain told) refl (judge_ends n place plain told)

aheads_end : (dead : Option FailCause) (next : OrbPointer) (s : AgentStep × Machine) → Leaves s → Leaves (ahead_of dead next s)
aheads_end None (pointers.At next) s h = h
aheads_end None pointers.Null s h = h
aheads_end (Some cause) next s h = h

-- ---- a reply to the main transaction
abbrev Moves : Move × Machine → Type 0
Moves (moves.Send step, m) = IfNone step.ended m.phase
Moves (move, m) = Unit {0}

pick : (b : Bool) (x y : Move × Machine) → Moves x → Moves y → Moves (cond b x y)
pick true x y h i = h
pick false x y h i = i

turn_moves : (m : Machine) (next : ℕ) (ahead : ReadAhead) → Moves (turn_step m next ahead)
turn_moves m next aheads.Idle = refl
turn_moves m next (aheads.UnderWay rung) = refl
turn_moves m next (aheads.Kept orb) = tt

follow_moves : (m : Machine) (next : OrbPointer) → Moves (follow_step m next)
follow_moves m (pointers.At next) = turn_moves m next m.ahead
follow_moves m pointers.Null = either m.doorbell (reread_step m) (quiet, record m { phase = phases.Suspended }) refl refl

orb_moves : (m : Machine) (bytes : Result (List ℕ) FailCause) → Moves (orb_read m bytes)
orb_moves m (Err cause) = tt
orb_moves m (Ok bytes) = tt

elements_moves : (m : Machine) (bytes : List ℕ) (fault : Option PageFault) → Moves (elements_read m bytes fault)
elements_moves m bytes None = tt
elements_moves m bytes (Some fault) = tt

table_moves : (m : Machine) (bytes : Result (List ℕ) FailCause) → Moves (table_read m bytes)
table_moves m (Err cause) = tt
table_moves m (Ok bytes) =
    let fault = first_fault 0 (elements_of bytes) in pick m.aborted (sent (end_step m kinds.Aborted None)) (elements_read m bytes fault) tt (elements_moves m bytes fault)

grows_moves : (m : Machine) (wanted : ℕ) → Moves (data_grown m wanted)
grows_moves m wanted = pick (length m.payload == wanted) (moves.Run, m) (sent (data_step m wanted)) tt refl

data_moves : (m : Machine) (wanted : ℕ) (bytes : Result (List ℕ) FailCause) → Moves (data_read m wanted bytes)
data_moves m wanted (Err cause) = tt
data_moves m wanted (Ok bytes) =
    let n = record m { payload = m.payload ++ bytes } in pick m.aborted (sent (end_step m kinds.Aborted None)) (data_grown n wanted) tt (grows_moves n wanted)

grown_moves : (m : Machine) → Moves (answer_grown m)
grown_moves m = either (m.written == length m.answer) (end_step m kinds.Good None) (answer_step m) tt refl

chunk_moves : (m : Machine) (failure : Option FailCause) → Moves (chunk_written m failure)
chunk_moves m (Some cause) = tt
chunk_moves m None = grown_moves (record m { written = m.written + answer_chunk m })

written_moves : (m : Machine) (failure : Option FailCause) → Moves (status_written m failure)
written_moves m (Some cause) = refl
written_moves m None = follow_moves m m.orb.next

next_moves : (m : Machine) (bytes : Result (List ℕ) FailCause) → Moves (next_read m bytes)
next_moves m (Err cause) = refl
next_moves m (Ok bytes) = follow_moves (record m { orb = record m.orb { next = pointer_at bytes 0 } }) (pointer_at bytes 0)

advanced_moves : (phase : Phase) (m : Machine) (answer : Answer) → m.phase ≡ phase → Moves (advanced phase m answer)
advanced_moves phases.Reset m answer p = ap is_writing p
advanced_moves phases.Fetching m answer p = orb_moves m (payload_of answer 32)
advanced_moves phases.ReadingTable m answer p = table_moves m (payload_of answer (8 * m.orb.data_size))
advanced_moves (phases.ReadingData wanted) m answer p = data_moves m wanted (payload_of answer (chunk_of m (length m.payload) wanted).length)
advanced_moves phases.Answering m answer p = chunk_moves m (write_failure answer)
advanced_moves phases.WritingStatus m answer p = written_moves m (write_failure answer)
advanced_moves phases.ReadingNext m answer p = next_moves m (payload_of answer 8)
advanced_moves phases.WritingLastStatus m answer p = refl
advanced_moves phases.Suspended m answer p = ap is_writing p
advanced_moves phases.Dead m answer p = ap is_writing p

served_ends : (place : ℕ) (plain : PlainDisk) (told : Told) (r : Move × Machine) → Moves r → Leaves (served place plain told r.0 r.1)
served_ends place plain told (moves.Send step, m) h = h
served_ends place plain told (moves.Check, m) h = let s = check_step m place plain told in aheads_end s.0.dead s.1.orb.next s (check_ends m place plain told)
served_ends place plain told (moves.Judge, m) h = judge_ends m place plain told
served_ends place plain told (moves.Run, m) h = run_ends m told

main_writes : (m : Machine) (place : ℕ) (plain : PlainDisk) (told : Option Told) (answer : Answer) → Leaves (reply_step m place plain told Main answer)
unfolding reply_step
main_writes m place plain told answer = served_ends place plain (told_or told) (advanced m.phase m answer) (advanced_moves m.phase m answer refl)

-- ---- the status block that an agent writes is as it was
pub record IsSameBlock (before now : Machine) : Type 0 where
  pub phase_is : now.phase ≡ before.phase
  pub outgoing : now.outgoing ≡ before.outgoing
  pub next : now.orb ≡ before.orb
  pub present : now.present ≡ before.present

pub same_self : (m : Machine) → IsSameBlock m m
same_self m = record { phase_is = refl; outgoing = refl; next = refl; present = refl }

-- where it writes one
abbrev pub Keeps : Machine → Machine → Type 0
Keeps before now = now.phase ≡ phases.WritingStatus → IsSameBlock before now

keeps_either : (before : Machine) (b : Bool) (x y : AgentStep × Machine) → Keeps before x.1 → Keeps before y.1 → Keeps before (cond b x y).1
keeps_either before true x y h i = h
keeps_either before false x y h i = i

keeps_ahead : (m : Machine) (bytes : Result (List ℕ) FailCause) → Keeps m (ahead_read m bytes).1
keeps_ahead m (Ok bytes) e = record { phase_is = refl; outgoing = refl; next = refl; present = refl }
keeps_ahead m (Err cause) e = record { phase_is = refl; outgoing = refl; next = refl; present = refl }

by_main : (s : AgentStep × Machine) (before : Machine) → s.0.ended ≡ None → Leaves s → Keeps before s.1
by_main s before none h = λ e. absurd (false≢true (sym (subst (λ x. IfNone x s.1.phase) none h) ∙ ap is_writing e))

pub reply_keeps : (m : Machine) (place : ℕ) (plain : PlainDisk) (told : Option Told) (which : Which) (answer : Answer) → (reply_step m place plain told which answer).0.ended ≡ None → Keeps m (reply_step m place plain told which answer).1
unfolding reply_step
reply_keeps m place plain told Main answer none = by_main (reply_step m place plain told Main answer) m none (main_writes m place plain told answer)
reply_keeps m place plain told Ahead answer none = keeps_either m (is_ahead m.ahead) (ahead_step m answer) (quiet, m) (keeps_ahead m (payload_of answer 32)) (λ e. same_self m)

-- ---- a transaction is lost
lost_main_over : (phase : Phase) (m : Machine) (cause : FailCause) → m.phase ≡ phase → is_over phase ≡ true → Rests (main_lost phase m cause)
lost_main_over phases.WritingStatus m cause p e = (refl, refl)
lost_main_over phases.WritingLastStatus m cause p e = (refl, refl)
lost_main_over phases.Dead m cause p e = (refl, ap is_over p)
lost_main_over phases.Reset m cause p e = absurd (false≢true e)
lost_main_over phases.Fetching m cause p e = absurd (false≢true e)
lost_main_over phases.ReadingTable m cause p e = absurd (false≢true e)
lost_main_over (phases.ReadingData wanted) m cause p e = absurd (false≢true e)
lost_main_over phases.Answering m cause p e = absurd (false≢true e)
lost_main_over phases.ReadingNext m cause p e = absurd (false≢true e)
lost_main_over phases.Suspended m cause p e = absurd (false≢true e)

pub lost_over : (m : Machine) (which : Which) (cause : FailCause) → is_over m.phase ≡ true → (let s = lost_step m which cause in (s.0.ended ≡ None) × (is_over s.1.phase ≡ true))
unfolding lost_step
lost_over m Main cause e = lost_main_over m.phase m cause refl e
lost_over m Ahead cause e = either_rests (is_ahead m.ahead) (ahead_lost m cause) (quiet, m) (refl, e) (refl, e)

-- ---- ends, one at most in a call
unlike : phases.WritingLastStatus ≡ phases.WritingStatus → ⊥
unlike e = cc

unlike_dead : phases.Dead ≡ phases.WritingStatus → ⊥
unlike_dead e = cc

-- Was is what an agent was that ends one, and By how it came to write its status block.
module _ (Was By : Type 0) (M : Machine) where
  abbrev pub AreGoing : List StatusKind → Machine → Type 0
  AreGoing [] m = Keeps M m
  AreGoing (kind ∷ []) m = (is_over m.phase ≡ true) × (Was × (m.phase ≡ phases.WritingStatus → By × (EndsSo kind m × EndsIn kind m.phase)))
  AreGoing (kind ∷ other ∷ later) m = ⊥

  -- what fails now is the first
  fails : (ends : List StatusKind) (m now : Machine) → is_over m.phase ≡ false → now.phase ≡ phases.WritingLastStatus → Was → AreGoing ends m → AreGoing (ends ++ kinds.Failed ∷ []) now
  fails [] m now e last was h = (ap is_over last, (was, λ f. absurd (unlike (sym last ∙ f))))
  fails (kind ∷ []) m now e last was h = absurd (false≢true (sym e ∙ h.0))
  fails (kind ∷ other ∷ later) m now e last was h = absurd h

  -- the agent dies
  dies : (ends : List StatusKind) (m now : Machine) → now.phase ≡ phases.Dead → AreGoing ends m → AreGoing (ends ++ []) now
  dies [] m now dead h = λ f. absurd (unlike_dead (sym dead ∙ f))
  dies (kind ∷ []) m now dead h = (ap is_over dead, (h.1.0, λ f. absurd (unlike_dead (sym dead ∙ f))))
  dies (kind ∷ other ∷ later) m now dead h = absurd h

  -- none ends
  pub no_more : (ends : List StatusKind) (m : Machine) → AreGoing ends m → AreGoing (ends ++ []) m
  no_more ends m h = subst (λ x. AreGoing x m) (sym (append-nil ends)) h

  -- a transaction is lost
  main_going : (ends : List StatusKind) (phase : Phase) (m : Machine) (cause : FailCause) → m.phase ≡ phase → (is_over m.phase ≡ false → Was) → AreGoing ends m → AreGoing (ends ++ listed (main_lost phase m cause).0.ended) (main_lost phase m cause).1
  main_going ends phases.Fetching m cause p was h = let e = ap is_over p in fails ends m (main_lost phases.Fetching m cause).1 e refl (was e) h
  main_going ends phases.ReadingTable m cause p was h = let e = ap is_over p in fails ends m (main_lost phases.ReadingTable m cause).1 e refl (was e) h
  main_going ends (phases.ReadingData wanted) m cause p was h = let e = ap is_over p in fails ends m (main_lost (phases.ReadingData wanted) m cause).1 e refl (was e) h
  main_going ends phases.Answering m cause p was h = let e = ap is_over p in fails ends m (main_lost phases.Answering m cause).1 e refl (was e) h
  main_going ends phases.WritingStatus m cause p was h = dies ends m (main_lost phases.WritingStatus m cause).1 refl h
  main_going ends phases.ReadingNext m cause p was h = dies ends m (main_lost phases.ReadingNext m cause).1 refl h
  main_going ends phases.WritingLastStatus m cause p was h = dies ends m (main_lost phases.WritingLastStatus m cause).1 refl h
  main_going ends phases.Reset m cause p was h = no_more ends m h
  main_going ends phases.Suspended m cause p was h = no_more ends m h
  main_going ends phases.Dead m cause p was h = no_more ends m h

  -- a read ahead is forgotten
  forgets : (ends : List StatusKind) (m : Machine) (cause : FailCause) → AreGoing ends m → AreGoing (ends ++ []) (ahead_lost m cause).1
  forgets [] m cause h = λ f. (let x = h f in record { phase_is = x.phase_is; outgoing = x.outgoing; next = x.next; present = x.present })
  forgets (kind ∷ []) m cause h = (h.0, (h.1.0, λ f. (let x = h.1.1 f in (x.0, (record { outgoing = x.1.0.outgoing; present = x.1.0.present; fair = x.1.0.fair }, x.1.1)))))
  forgets (kind ∷ other ∷ later) m cause h = absurd h

  pub lost_going : (ends : List StatusKind) (m : Machine) (which : Which) (cause : FailCause) → (is_over m.phase ≡ false → Was) → AreGoing ends m → (let s = lost_step m which cause in AreGoing (ends ++ listed s.0.ended) s.1)
  unfolding lost_step
  lost_going ends m Main cause was h = main_going ends m.phase m cause refl was h
  lost_going ends m Ahead cause was h = by (is_ahead m.ahead)
    where
      by : (b : Bool) → (let s = cond b (ahead_lost m cause) (quiet, m) in AreGoing (ends ++ listed s.0.ended) s.1)
      by true = forgets ends m cause h
      by false = no_more ends m h

-- ---- a step that is the first one
-- it was neither, or went on
module _ (On : Type 0) (m : Machine) (s : AgentStep × Machine) (rests : is_over m.phase ≡ true → Rests s ⊎ On) where
  went : (Rests s → ⊥) → (is_over m.phase ≡ false) ⊎ On
  went f = by (is_over m.phase) refl
    where
      so : Rests s ⊎ On → (is_over m.phase ≡ false) ⊎ On
      so (inl r) = absurd (f r)
      so (inr on) = inr on

      by : (b : Bool) → is_over m.phase ≡ b → (is_over m.phase ≡ false) ⊎ On
      by false e = inl e
      by true e = so (rests e)

  pub first_was : is_over s.1.phase ≡ false → (is_over m.phase ≡ false) ⊎ On
  first_was e = went (λ r. false≢true (sym e ∙ r.1))

  pub first_going : (By : Type 0) → IfEnds s.0.ended s.1.phase → IfSome s.0.ended (λ kind. EndsSo kind s.1) → ((kind : StatusKind) → s.0.ended ≡ Some kind → By) → (s.0.ended ≡ None → Keeps m s.1) → AreGoing ((is_over m.phase ≡ false) ⊎ On) By m (listed s.0.ended) s.1
  first_going By ends so main keeps = by s.0.ended refl ends so
    where
      by : (x : Option StatusKind) → s.0.ended ≡ x → IfEnds x s.1.phase → IfSome x (λ kind. EndsSo kind s.1) → AreGoing ((is_over m.phase ≡ false) ⊎ On) By m (listed x) s.1
      by None e h k = keeps e
      by (Some kind) e h k = (ends_over kind s.1.phase h, (went (λ r. let z : Some kind ≡ None = sym e ∙ r.0 in cc), λ f. (main kind e, (k, h))))

-- ---- a doorbell, a pointer, and what is done with an agent beside its steps
bell_keeps_in : (state : AgentState) (m : Machine) → Keeps m (doorbell_in state m).1
bell_keeps_in states.Active m e = record { phase_is = refl; outgoing = refl; next = refl; present = refl }
bell_keeps_in states.Suspended m e = absurd (let z : phases.ReadingNext ≡ phases.WritingStatus = e in cc)
bell_keeps_in states.Reset m e = same_self m
bell_keeps_in states.Dead m e = same_self m

pub bell_keeps : (m : Machine) → Keeps m (doorbell_step m).1
unfolding doorbell_step
bell_keeps m = bell_keeps_in (state_in m.phase) m

pointed_keeps : (m : Machine) (pointer : OrbPointer) → Keeps m (pointed m pointer).1
pointed_keeps m Null e = same_self m
pointed_keeps m (At next) e = absurd (let z : phases.Fetching ≡ phases.WritingStatus = e in cc)

point_keeps_in : (state : AgentState) (m : Machine) (pointer : OrbPointer) → Keeps m (point_in state m pointer).1
point_keeps_in states.Reset m pointer = pointed_keeps m pointer
point_keeps_in states.Suspended m pointer = pointed_keeps m pointer
point_keeps_in states.Active m pointer = λ e. same_self m
point_keeps_in states.Dead m pointer = λ e. same_self m

pub point_keeps : (m : Machine) (pointer : OrbPointer) → Keeps m (point_step m pointer).1
unfolding point_step
point_keeps m pointer = point_keeps_in (state_in m.phase) m pointer

then_same : (a b c : Machine) → IsSameBlock a b → IsSameBlock b c → IsSameBlock a c
then_same a b c h k = record { phase_is = k.phase_is ∙ h.phase_is; outgoing = k.outgoing ∙ h.outgoing; next = k.next ∙ h.next; present = k.present ∙ h.present }

then_keeps : (a b c : Machine) → Keeps a b → (c.phase ≡ phases.WritingStatus → b.phase ≡ phases.WritingStatus) → Keeps b c → Keeps a c
then_keeps a b c h back k = λ e. then_same a b c (h (back e)) (k e)

reset_keeps : (a m : Machine) → Keeps a (reset_step m)
unfolding reset_step
reset_keeps a m e = absurd (let z : phases.Reset ≡ phases.WritingStatus = e in cc)

abort_keeps : (a m : Machine) (orb : ℕ) → Keeps a m → Keeps a (abort_step m orb)
unfolding abort_step
abort_keeps a m orb h e = let x = h e in record { phase_is = x.phase_is; outgoing = x.outgoing; next = x.next; present = x.present }

lost_main_keeps : (a : Machine) (phase : Phase) (m : Machine) (cause : FailCause) → Keeps a m → Keeps a (main_lost phase m cause).1
lost_main_keeps a phases.Fetching m cause h = λ e. absurd (unlike e)
lost_main_keeps a phases.ReadingTable m cause h = λ e. absurd (unlike e)
lost_main_keeps a (phases.ReadingData wanted) m cause h = λ e. absurd (unlike e)
lost_main_keeps a phases.Answering m cause h = λ e. absurd (unlike e)
lost_main_keeps a phases.WritingStatus m cause h = λ e. absurd (unlike_dead e)
lost_main_keeps a phases.ReadingNext m cause h = λ e. absurd (unlike_dead e)
lost_main_keeps a phases.WritingLastStatus m cause h = λ e. absurd (unlike_dead e)
lost_main_keeps a phases.Reset m cause h = h
lost_main_keeps a phases.Suspended m cause h = h
lost_main_keeps a phases.Dead m cause h = h

lost_keeps : (a m : Machine) (which : Which) (cause : FailCause) → Keeps a m → Keeps a (lost_step m which cause).1
unfolding lost_step
lost_keeps a m Main cause h = lost_main_keeps a m.phase m cause h
lost_keeps a m Ahead cause h = keeps_either a (is_ahead m.ahead) (ahead_lost m cause) (quiet, m) (λ e. (let x = h e in record { phase_is = x.phase_is; outgoing = x.outgoing; next = x.next; present = x.present })) h

bell_back_in : (state : AgentState) (m : Machine) → (doorbell_in state m).1.phase ≡ phases.WritingStatus → m.phase ≡ phases.WritingStatus
bell_back_in states.Active m e = e
bell_back_in states.Suspended m e = absurd (let z : phases.ReadingNext ≡ phases.WritingStatus = e in cc)
bell_back_in states.Reset m e = e
bell_back_in states.Dead m e = e

bell_back : (m : Machine) → (doorbell_step m).1.phase ≡ phases.WritingStatus → m.phase ≡ phases.WritingStatus
unfolding doorbell_step
bell_back m e = bell_back_in (state_in m.phase) m e

pointed_back : (m : Machine) (pointer : OrbPointer) → (pointed m pointer).1.phase ≡ phases.WritingStatus → m.phase ≡ phases.WritingStatus
pointed_back m Null e = e
pointed_back m (At next) e = absurd (let z : phases.Fetching ≡ phases.WritingStatus = e in cc)

point_back_in : (state : AgentState) (m : Machine) (pointer : OrbPointer) → (point_in state m pointer).1.phase ≡ phases.WritingStatus → m.phase ≡ phases.WritingStatus
point_back_in states.Reset m pointer e = pointed_back m pointer e
point_back_in states.Suspended m pointer e = pointed_back m pointer e
point_back_in states.Active m pointer e = e
point_back_in states.Dead m pointer e = e

point_back : (m : Machine) (pointer : OrbPointer) → (point_step m pointer).1.phase ≡ phases.WritingStatus → m.phase ≡ phases.WritingStatus
unfolding point_step
point_back m pointer e = point_back_in (state_in m.phase) m pointer e

-- so the block stays by each of these
pub keeps_closed : (machines : ℕ → Machine) → IsClosed (λ q m. Keeps (machines q) m)
keeps_closed machines = record {
  reset = λ q m. reset_keeps (machines q) m;
  abort = λ q m orb h. abort_keeps (machines q) m orb h;
  lost = λ q m which cause h. lost_keeps (machines q) m which cause h;
  bell = λ q m h. then_keeps (machines q) m (doorbell_step m).1 h (bell_back m) (bell_keeps m);
  point = λ q m pointer h. then_keeps (machines q) m (point_step m pointer).1 h (point_back m pointer) (point_keeps m pointer);
}
