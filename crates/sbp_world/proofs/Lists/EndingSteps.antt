-- A step of an agent that ends an ORB leaves the agent writing its status block, or dead; as failed or illegal it leaves the agent dead. An agent that is dead ends none, and stays so.
use Rattle.std.proofs.Common.{◌≡◌, ◌∙◌, refl, sym, ap, subst, ℕ, ◌+◌, ◌*◌, ◌^◌, ◌==◌, ◌&&◌, nat_lt, not, Bool, true, false, cond, List, [], ◌∷◌, ◌++◌, length, Option, Some, None, Result, Ok, Err}
use Rattle.std.proofs.lemmas.Bool.{false≢true}
use Rattle.std.proofs.lemmas.List.{append-nil}
use Rattle.orb_layout.specs.declared.ask.Ask.TheVariants.{Read}
use Rattle.orb_layout.specs.declared.ask.FailCause.{FailCause}
use Rattle.orb_layout.specs.declared.command.CommandOrb.{CommandOrb}
use Rattle.orb_layout.specs.declared.pointer.OrbPointer.{OrbPointer}
use Rattle.orb_layout.specs.declared.pointer.OrbPointer.TheVariants as pointers
use Rattle.orb_layout.specs.declared.status.StatusKind.{StatusKind}
use Rattle.orb_layout.specs.declared.status.StatusKind.TheVariants as kinds
use Rattle.orb_layout.specs.Pointers.{pointer_at}
use Rattle.orb_layout.specs.Replies.{Answer, payload_of, write_failure}
use Rattle.page_table.specs.declared.fault.PageFault.{PageFault}
use Rattle.page_table.specs.Elements.{elements_of, first_fault}
use Rattle.rbc_disk.specs.declared.command.Need.{Need}
use Rattle.rbc_disk.specs.declared.command.Need.TheVariants as needs
use Rattle.rbc_disk.specs.declared.command.Outcome.{Outcome}
use Rattle.rbc_disk.specs.declared.command.Outcome.TheVariants as outcomes
use Rattle.rbc_disk.specs.Runs.{Told, need_of}
use Rattle.rbc_disk.specs.Units.{PlainDisk}
use Rattle.command_agent.specs.Checks.{death_by, reads_table, refusal, verdict}
use Rattle.command_agent.specs.Machine.{Machine, chunk_of, is_ahead, plan_of, state_in}
use Rattle.command_agent.specs.Steps.{advanced, ahead_lost, ahead_of, ahead_read, ahead_step, answer_chunk, answer_grown, answer_step, asks, check_step, checked, chunk_written, data_grown, data_read, data_step, elements_read, end_step, follow_step, is_reset, judge_step, judged, lost_step, main_lost, next_read, orb_read, quiet, ran_as, reply_step, reread_step, run_step, sent, served, status_phase, status_written, table_read, told_or, turn_step, unread_buffer, with_outcome}
use Rattle.command_agent.specs.declared.phase.Phase.{Phase}
use Rattle.command_agent.specs.declared.phase.Phase.TheVariants as phases
use Rattle.command_agent.specs.declared.phase.ReadAhead.{ReadAhead}
use Rattle.command_agent.specs.declared.phase.ReadAhead.TheVariants as aheads
use Rattle.command_agent.specs.declared.step.AgentStep.{AgentStep}
use Rattle.command_agent.specs.declared.step.Move.{Move}
use Rattle.command_agent.specs.declared.step.Move.TheVariants as moves
use Rattle.command_agent.specs.declared.step.Which.{Which}
use Rattle.command_agent.specs.declared.step.Which.TheVariants.{Ahead, Main}

-- the agent is dead, or it will be so as its last status block is answered
abbrev pub is_last : Phase → Bool
is_last phases.WritingLastStatus = true
is_last phases.Dead = true
is_last _ = false

-- or it writes a status block
abbrev pub is_over : Phase → Bool
is_over phases.WritingStatus = true
is_over phases.WritingLastStatus = true
is_over phases.Dead = true
is_over _ = false

-- so an end leaves the agent
abbrev pub EndsIn : StatusKind → Phase → Type 0
EndsIn kinds.Failed phase = is_last phase ≡ true
EndsIn (kinds.Illegal meaning) phase = is_last phase ≡ true
EndsIn kind phase = is_over phase ≡ true

abbrev pub IfEnds : Option StatusKind → Phase → Type 0
IfEnds None phase = Unit {0}
IfEnds (Some kind) phase = EndsIn kind phase

pub last_over : (phase : Phase) → is_last phase ≡ true → is_over phase ≡ true
last_over phases.WritingLastStatus e = refl
last_over phases.Dead e = refl
last_over phases.Reset e = absurd (false≢true e)
last_over phases.Fetching e = absurd (false≢true e)
last_over phases.ReadingTable e = absurd (false≢true e)
last_over (phases.ReadingData wanted) e = absurd (false≢true e)
last_over phases.Answering e = absurd (false≢true e)
last_over phases.WritingStatus e = absurd (false≢true e)
last_over phases.ReadingNext e = absurd (false≢true e)
last_over phases.Suspended e = absurd (false≢true e)

-- such an agent is not in RESET
pub over_up : (phase : Phase) → is_over phase ≡ true → not (is_reset (state_in phase)) ≡ true
over_up phases.Reset e = absurd (false≢true e)
over_up phase e = refl

pub ends_over : (kind : StatusKind) (phase : Phase) → EndsIn kind phase → is_over phase ≡ true
ends_over kinds.Failed phase e = last_over phase e
ends_over (kinds.Illegal meaning) phase e = last_over phase e
ends_over kinds.Good phase e = e
ends_over (kinds.Check sense) phase e = e
ends_over kinds.Dummy phase e = e
ends_over kinds.Aborted phase e = e
ends_over (kinds.Management meaning) phase e = e

pub ends_dead : (kind : StatusKind) → EndsIn kind phases.Dead
ends_dead kinds.Failed = refl
ends_dead (kinds.Illegal meaning) = refl
ends_dead kinds.Good = refl
ends_dead (kinds.Check sense) = refl
ends_dead kinds.Dummy = refl
ends_dead kinds.Aborted = refl
ends_dead (kinds.Management meaning) = refl

abbrev Steps : AgentStep × Machine → Type 0
Steps s = IfEnds s.0.ended s.1.phase

either : (b : Bool) (x y : AgentStep × Machine) → Steps x → Steps y → Steps (cond b x y)
either true x y h i = h
either false x y h i = i

-- ---- a command runs
run_ends : (m : Machine) (told : Told) → Steps (run_step m told)
run_ends m told = by told.outcome (record m { answer = told.answer; written = 0 })
  where
    good : (b : Bool) (len : ℕ) (n : Machine) → Steps (with_outcome (outcomes.Good len) (cond b (end_step n kinds.Good None) (answer_step n)))
    good true len n = refl
    good false len n = tt

    by : (outcome : Outcome) (n : Machine) → Steps (with_outcome outcome (ran_as n outcome))
    by (outcomes.Check sense) n = refl
    by (outcomes.Good len) n = good (len == 0) len n

judge_ends : (m : Machine) (place : ℕ) (plain : PlainDisk) (told : Told) → Steps (judge_step m place plain told)
judge_ends m place plain told = by (need_of m.orb.cdb (plan_of m) plain place)
  where
    by : (need : Need) → Steps (judged m told need)
    by needs.RunNow = run_ends m told
    by (needs.Payload len) = tt

-- ---- an ORB is checked, and the one behind it read
abbrev EndsSoundly : Option StatusKind → Type 0
EndsSoundly None = Unit {0}
EndsSoundly (Some kind) = EndsIn kind (status_phase (death_by kind))

first_of : (b : Bool) (x y : Option StatusKind) → EndsSoundly x → EndsSoundly y → EndsSoundly (cond b x y)
first_of true x y p q = p
first_of false x y p q = q

refusal_ends : (orb : CommandOrb) → EndsSoundly (refusal orb)
unfolding refusal
refusal_ends orb =
    first_of (nat_lt 2 orb.speed) (Some (kinds.Illegal 0x02)) _ refl
    (first_of (nat_lt (7 + orb.speed) orb.max_payload) (Some (kinds.Illegal 0xff)) _ refl
    (first_of (orb.has_table && not (orb.page_size == 0)) (Some (kinds.Illegal 0x03)) _ refl
    (first_of (orb.has_table && nat_lt 64 orb.data_size) (Some (kinds.Illegal 0xff)) _ refl
    (first_of (not orb.has_table && nat_lt (2 ^ 48) (orb.descriptor + orb.data_size)) (Some (kinds.Illegal 0xff)) None refl tt))))

verdict_ends : (orb : CommandOrb) (aborted : Bool) → EndsSoundly (verdict orb aborted)
unfolding verdict
verdict_ends orb aborted =
    first_of (orb.format == 3) (Some kinds.Dummy) _ refl
    (first_of (not (orb.format == 0)) (Some (kinds.Illegal 0x01)) _ refl
    (first_of aborted (Some kinds.Aborted) _ refl (refusal_ends orb)))

check_ends : (m : Machine) (place : ℕ) (plain : PlainDisk) (told : Told) → Steps (check_step m place plain told)
check_ends m place plain told = by (verdict m.orb m.aborted) (verdict_ends m.orb m.aborted)
  where
    by : (found : Option StatusKind) → EndsSoundly found → Steps (checked m place plain told found)
    by (Some kind) e = e
    by None e =
        let n = record m { segments = unread_buffer m.orb } in
        either (reads_table m.orb) (asks (Read m.orb.descriptor (8 * m.orb.data_size)), record m { phase = phases.ReadingTable }) (judge_step n place plain told) tt (judge_ends n place plain told)

aheads_end : (dead : Option FailCause) (next : OrbPointer) (s : AgentStep × Machine) → Steps s → Steps (ahead_of dead next s)
aheads_end None (pointers.At next) s h = h
aheads_end None pointers.Null s h = h
aheads_end (Some cause) next s h = h

-- ---- a reply to the main transaction
abbrev Moves : Move × Machine → Type 0
Moves (moves.Send step, m) = IfEnds step.ended m.phase
Moves (move, m) = Unit {0}

pick : (b : Bool) (x y : Move × Machine) → Moves x → Moves y → Moves (cond b x y)
pick true x y h i = h
pick false x y h i = i

turn_moves : (m : Machine) (next : ℕ) (ahead : ReadAhead) → Moves (turn_step m next ahead)
turn_moves m next aheads.Idle = tt
turn_moves m next (aheads.UnderWay rung) = tt
turn_moves m next (aheads.Kept orb) = tt

follow_moves : (m : Machine) (next : OrbPointer) → Moves (follow_step m next)
follow_moves m (pointers.At next) = turn_moves m next m.ahead
follow_moves m pointers.Null = either m.doorbell (reread_step m) (quiet, record m { phase = phases.Suspended }) tt tt

orb_moves : (m : Machine) (bytes : Result (List ℕ) FailCause) → Moves (orb_read m bytes)
orb_moves m (Err cause) = refl
orb_moves m (Ok bytes) = tt

elements_moves : (m : Machine) (bytes : List ℕ) (fault : Option PageFault) → Moves (elements_read m bytes fault)
elements_moves m bytes None = tt
elements_moves m bytes (Some fault) = refl

table_moves : (m : Machine) (bytes : Result (List ℕ) FailCause) → Moves (table_read m bytes)
table_moves m (Err cause) = refl
table_moves m (Ok bytes) =
    let fault = first_fault 0 (elements_of bytes) in pick m.aborted (sent (end_step m kinds.Aborted None)) (elements_read m bytes fault) refl (elements_moves m bytes fault)

grows_moves : (m : Machine) (wanted : ℕ) → Moves (data_grown m wanted)
grows_moves m wanted = pick (length m.payload == wanted) (moves.Run, m) (sent (data_step m wanted)) tt tt

data_moves : (m : Machine) (wanted : ℕ) (bytes : Result (List ℕ) FailCause) → Moves (data_read m wanted bytes)
data_moves m wanted (Err cause) = refl
data_moves m wanted (Ok bytes) =
    let n = record m { payload = m.payload ++ bytes } in pick m.aborted (sent (end_step m kinds.Aborted None)) (data_grown n wanted) refl (grows_moves n wanted)

grown_moves : (m : Machine) → Moves (answer_grown m)
grown_moves m = either (m.written == length m.answer) (end_step m kinds.Good None) (answer_step m) refl tt

chunk_moves : (m : Machine) (failure : Option FailCause) → Moves (chunk_written m failure)
chunk_moves m (Some cause) = refl
chunk_moves m None = grown_moves (record m { written = m.written + answer_chunk m })

written_moves : (m : Machine) (failure : Option FailCause) → Moves (status_written m failure)
written_moves m (Some cause) = tt
written_moves m None = follow_moves m m.orb.next

next_moves : (m : Machine) (bytes : Result (List ℕ) FailCause) → Moves (next_read m bytes)
next_moves m (Err cause) = tt
next_moves m (Ok bytes) = follow_moves (record m { orb = record m.orb { next = pointer_at bytes 0 } }) (pointer_at bytes 0)

advanced_moves : (phase : Phase) (m : Machine) (answer : Answer) → Moves (advanced phase m answer)
advanced_moves phases.Reset m answer = tt
advanced_moves phases.Fetching m answer = orb_moves m (payload_of answer 32)
advanced_moves phases.ReadingTable m answer = table_moves m (payload_of answer (8 * m.orb.data_size))
advanced_moves (phases.ReadingData wanted) m answer = data_moves m wanted (payload_of answer (chunk_of m (length m.payload) wanted).length)
advanced_moves phases.Answering m answer = chunk_moves m (write_failure answer)
advanced_moves phases.WritingStatus m answer = written_moves m (write_failure answer)
advanced_moves phases.ReadingNext m answer = next_moves m (payload_of answer 8)
advanced_moves phases.WritingLastStatus m answer = tt
advanced_moves phases.Suspended m answer = tt
advanced_moves phases.Dead m answer = tt

served_ends : (place : ℕ) (plain : PlainDisk) (told : Told) (r : Move × Machine) → Moves r → Steps (served place plain told r.0 r.1)
served_ends place plain told (moves.Send step, m) h = h
served_ends place plain told (moves.Check, m) h = let s = check_step m place plain told in aheads_end s.0.dead s.1.orb.next s (check_ends m place plain told)
served_ends place plain told (moves.Judge, m) h = judge_ends m place plain told
served_ends place plain told (moves.Run, m) h = run_ends m told

-- ---- a reply to the read ahead
ahead_read_ends : (m : Machine) (bytes : Result (List ℕ) FailCause) → Steps (ahead_read m bytes)
ahead_read_ends m (Ok bytes) = tt
ahead_read_ends m (Err cause) = tt

pub reply_ends : (m : Machine) (place : ℕ) (plain : PlainDisk) (told : Option Told) (which : Which) (answer : Answer) → (let s = reply_step m place plain told which answer in IfEnds s.0.ended s.1.phase)
unfolding reply_step
reply_ends m place plain told Main answer = served_ends place plain (told_or told) (advanced m.phase m answer) (advanced_moves m.phase m answer)
reply_ends m place plain told Ahead answer = either (is_ahead m.ahead) (ahead_step m answer) (quiet, m) (ahead_read_ends m (payload_of answer 32)) tt

-- ---- an agent that is dead
-- it ends no ORB, and stays so
abbrev Rests : AgentStep × Machine → Type 0
Rests s = (s.0.ended ≡ None) × (is_last s.1.phase ≡ true)

either_rests : (b : Bool) (x y : AgentStep × Machine) → Rests x → Rests y → Rests (cond b x y)
either_rests true x y h i = h
either_rests false x y h i = i

ahead_rests : (m : Machine) (bytes : Result (List ℕ) FailCause) → is_last m.phase ≡ true → Rests (ahead_read m bytes)
ahead_rests m (Ok bytes) e = (refl, e)
ahead_rests m (Err cause) e = (refl, e)

main_rests : (phase : Phase) (m : Machine) (place : ℕ) (plain : PlainDisk) (told : Told) (answer : Answer) → m.phase ≡ phase → is_last phase ≡ true → Rests (served place plain told (advanced phase m answer).0 (advanced phase m answer).1)
main_rests phases.WritingLastStatus m place plain told answer p e = (refl, refl)
main_rests phases.Dead m place plain told answer p e = (refl, ap is_last p)
main_rests phases.Reset m place plain told answer p e = absurd (false≢true e)
main_rests phases.Fetching m place plain told answer p e = absurd (false≢true e)
main_rests phases.ReadingTable m place plain told answer p e = absurd (false≢true e)
main_rests (phases.ReadingData wanted) m place plain told answer p e = absurd (false≢true e)
main_rests phases.Answering m place plain told answer p e = absurd (false≢true e)
main_rests phases.WritingStatus m place plain told answer p e = absurd (false≢true e)
main_rests phases.ReadingNext m place plain told answer p e = absurd (false≢true e)
main_rests phases.Suspended m place plain told answer p e = absurd (false≢true e)

pub reply_rests : (m : Machine) (place : ℕ) (plain : PlainDisk) (told : Option Told) (which : Which) (answer : Answer) → is_last m.phase ≡ true → (let s = reply_step m place plain told which answer in (s.0.ended ≡ None) × (is_last s.1.phase ≡ true))
unfolding reply_step
reply_rests m place plain told Main answer e = main_rests m.phase m place plain (told_or told) answer refl e
reply_rests m place plain told Ahead answer e = either_rests (is_ahead m.ahead) (ahead_step m answer) (quiet, m) (ahead_rests m (payload_of answer 32) e) (refl, e)

lost_main_rests : (phase : Phase) (m : Machine) (cause : FailCause) → m.phase ≡ phase → is_last phase ≡ true → Rests (main_lost phase m cause)
lost_main_rests phases.WritingLastStatus m cause p e = (refl, refl)
lost_main_rests phases.Dead m cause p e = (refl, ap is_last p)
lost_main_rests phases.Reset m cause p e = absurd (false≢true e)
lost_main_rests phases.Fetching m cause p e = absurd (false≢true e)
lost_main_rests phases.ReadingTable m cause p e = absurd (false≢true e)
lost_main_rests (phases.ReadingData wanted) m cause p e = absurd (false≢true e)
lost_main_rests phases.Answering m cause p e = absurd (false≢true e)
lost_main_rests phases.WritingStatus m cause p e = absurd (false≢true e)
lost_main_rests phases.ReadingNext m cause p e = absurd (false≢true e)
lost_main_rests phases.Suspended m cause p e = absurd (false≢true e)

pub lost_rests : (m : Machine) (which : Which) (cause : FailCause) → is_last m.phase ≡ true → (let s = lost_step m which cause in (s.0.ended ≡ None) × (is_last s.1.phase ≡ true))
unfolding lost_step
lost_rests m Main cause e = lost_main_rests m.phase m cause refl e
lost_rests m Ahead cause e = either_rests (is_ahead m.ahead) (ahead_lost m cause) (quiet, m) (refl, e) (refl, e)

-- ---- ends, one at most in a call
abbrev pub listed : Option StatusKind → List StatusKind
listed None = []
listed (Some kind) = kind ∷ []

-- Was is what an agent was that ends one.
module _ (Was : Type 0) where
  abbrev pub AreEnding : List StatusKind → Phase → Type 0
  AreEnding [] phase = Unit {0}
  AreEnding (kind ∷ []) phase = EndsIn kind phase × Was
  AreEnding (kind ∷ other ∷ later) phase = ⊥

  -- what fails now is the first
  fails : (ends : List StatusKind) (phase : Phase) → is_over phase ≡ false → Was → AreEnding ends phase → AreEnding (ends ++ kinds.Failed ∷ []) phases.WritingLastStatus
  fails [] phase e was h = (refl, was)
  fails (kind ∷ []) phase e was h = absurd (false≢true (sym e ∙ ends_over kind phase h.0))
  fails (kind ∷ other ∷ later) phase e was h = absurd h

  -- the agent dies
  dies : (ends : List StatusKind) (phase : Phase) → AreEnding ends phase → AreEnding (ends ++ []) phases.Dead
  dies [] phase h = tt
  dies (kind ∷ []) phase h = (ends_dead kind, h.1)
  dies (kind ∷ other ∷ later) phase h = absurd h

  -- none ends
  pub no_more : (ends : List StatusKind) (phase : Phase) → AreEnding ends phase → AreEnding (ends ++ []) phase
  no_more ends phase h = subst (λ x. AreEnding x phase) (sym (append-nil ends)) h

  -- a transaction is lost
  main_ending : (ends : List StatusKind) (phase : Phase) (m : Machine) (cause : FailCause) → m.phase ≡ phase → (is_last phase ≡ false → Was) → AreEnding ends phase → AreEnding (ends ++ listed (main_lost phase m cause).0.ended) (main_lost phase m cause).1.phase
  main_ending ends phases.Fetching m cause p was h = fails ends phases.Fetching refl (was refl) h
  main_ending ends phases.ReadingTable m cause p was h = fails ends phases.ReadingTable refl (was refl) h
  main_ending ends (phases.ReadingData wanted) m cause p was h = fails ends (phases.ReadingData wanted) refl (was refl) h
  main_ending ends phases.Answering m cause p was h = fails ends phases.Answering refl (was refl) h
  main_ending ends phases.WritingStatus m cause p was h = dies ends phases.WritingStatus h
  main_ending ends phases.ReadingNext m cause p was h = dies ends phases.ReadingNext h
  main_ending ends phases.WritingLastStatus m cause p was h = dies ends phases.WritingLastStatus h
  main_ending ends phases.Reset m cause p was h = no_more ends m.phase (subst (AreEnding ends) (sym p) h)
  main_ending ends phases.Suspended m cause p was h = no_more ends m.phase (subst (AreEnding ends) (sym p) h)
  main_ending ends phases.Dead m cause p was h = no_more ends m.phase (subst (AreEnding ends) (sym p) h)

  pub lost_ending : (ends : List StatusKind) (m : Machine) (which : Which) (cause : FailCause) → (is_last m.phase ≡ false → Was) → AreEnding ends m.phase → (let s = lost_step m which cause in AreEnding (ends ++ listed s.0.ended) s.1.phase)
  unfolding lost_step
  lost_ending ends m Main cause was h = main_ending ends m.phase m cause refl was h
  lost_ending ends m Ahead cause was h = by (is_ahead m.ahead)
    where
      by : (b : Bool) → (let s = cond b (ahead_lost m cause) (quiet, m) in AreEnding (ends ++ listed s.0.ended) s.1.phase)
      by true = no_more ends m.phase h
      by false = no_more ends m.phase h

-- of a step that is the first one
pub first_ending : (m : Machine) (s : AgentStep × Machine) → IfEnds s.0.ended s.1.phase → (is_last m.phase ≡ true → (s.0.ended ≡ None) × (is_last s.1.phase ≡ true)) → AreEnding (is_last m.phase ≡ false) (listed s.0.ended) s.1.phase
first_ending m s ends rests = by s.0.ended refl ends (is_last m.phase) refl
  where
    by : (x : Option StatusKind) → s.0.ended ≡ x → IfEnds x s.1.phase → (b : Bool) → is_last m.phase ≡ b → AreEnding (is_last m.phase ≡ false) (listed x) s.1.phase
    by None e h b f = tt
    by (Some kind) e h false f = (h, f)
    by (Some kind) e h true f = absurd (let z : Some kind ≡ None = sym e ∙ (rests f).0 in cc)

pub first_was : (m : Machine) (s : AgentStep × Machine) → (is_last m.phase ≡ true → (s.0.ended ≡ None) × (is_last s.1.phase ≡ true)) → is_last s.1.phase ≡ false → is_last m.phase ≡ false
first_was m s rests e = by (is_last m.phase) refl
  where
    by : (b : Bool) → is_last m.phase ≡ b → is_last m.phase ≡ false
    by false f = f
    by true f = absurd (false≢true (sym e ∙ (rests f).1))
