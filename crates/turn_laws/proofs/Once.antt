-- A turn tells one death at most, and none of an agent that is DEAD: as the deaths of each turn are those that its step brings, and that of the loss of its request.
use Rattle.std.proofs.Common.{◌≡◌, ◌∙◌, refl, ap, inl, inr, ◌⊎◌, ℕ, suc, ◌&&◌, ◌||◌, nat_lt, Bool, true, false, cond, List, [], ◌∷◌, length, Option, Some, None, Result, Ok, Err}
use Rattle.std.specs.List.{filter}
use Rattle.orb_layout.specs.declared.ask.Ask.{Ask}
use Rattle.orb_layout.specs.declared.ask.FailCause.{FailCause}
use Rattle.orb_layout.specs.declared.pointer.OrbPointer.{OrbPointer}
use Rattle.orb_layout.specs.declared.status.StatusKind.{StatusKind}
use Rattle.orb_layout.specs.Pointers.{pointer_at}
use Rattle.orb_layout.specs.Replies.{Answer, payload_of}
use Rattle.rbc_disk.specs.Disk.{Disk}
use Rattle.rbc_disk.specs.Runs.{Told}
use Rattle.rbc_disk.specs.Units.{PlainDisk}
use Rattle.command_agent.specs.Machine.{Machine, is_ahead, state_in}
use Rattle.command_agent.specs.Steps.{advanced, ahead_read, ahead_step, asks, doorbell_in, doorbell_step, point_in, point_step, quiet, reply_step, served, told_or}
use Rattle.command_agent.specs.declared.phase.Phase.{Phase}
use Rattle.command_agent.specs.declared.phase.Phase.TheVariants as phases
use Rattle.command_agent.specs.declared.step.AgentState.TheVariants as states
use Rattle.command_agent.specs.declared.step.AgentStep.{AgentStep}
use Rattle.command_agent.specs.declared.step.PointRefusal.{PointRefusal}
use Rattle.command_agent.specs.declared.step.PointRefusal.TheVariants as refusals
use Rattle.command_agent.specs.declared.step.Which.{Which}
use Rattle.command_agent.specs.declared.step.Which.TheVariants.{Ahead, Main}
use Rattle.sbp_journal.specs.Addresses.{agent_reset, agent_state, doorbell, orb_pointer, unsolicited_enable}
use Rattle.sbp_journal.specs.declared.note.Note.{Note}
use Rattle.sbp_journal.specs.declared.note.Note.TheVariants as notes
use Rattle.sbp_laws.specs.Agents.{AgentTurn, Event, agent_event, agent_notes_for, agent_turn, body_of, by_doorbell, by_pointer, fifo_in, finds_first, is_dead, list_taken, nothing, replies, target_before, told_among, untold_among, wire_after, wire_before, writes}
use Rattle.sbp_laws.specs.Deaths.{ends_by, is_death_note, was_dead}
use Rattle.sbp_laws.specs.Lists.{Orb, named}
use Rattle.sbp_laws.specs.NoteKinds.{is_end_note, of_kind}
use Rattle.sbp_laws.specs.Packets.{finds_label}
use Rattle.sbp_laws.specs.Targets.{Target, agent_at, initiator_at, login_at, plain_for}
use Rattle.sbp_laws.specs.Turns.{Turn}
use Rattle.turn_laws.specs.Ends.{EndsWhereDue}
use Rattle.turn_laws.specs.Once.{DiesOnce, OnceLaw}
use Rattle.turn_laws.proofs.EachTurns.{brought_law}
use Rattle.turn_laws.proofs.Ends.{ends_law}
use Rattle.turn_laws.proofs.EndShapes.{reply_shaped}
use Rattle.turn_laws.proofs.EndTries.{Brought, IsShaped, brings, brought, brought_notes, brought_unsent, dead_in, found_by, notes_tried}
use Rattle.sbp_world.proofs.Wire.Kept.{and_false}

-- ---- deaths are ends
abbrev deaths : List Note → ℕ
deaths rest = length (filter is_death_note rest)

either_note : (kind : Bool) (note : Note) (rest : List Note) → (is_death_note note ≡ true → kind ≡ true)
    → (let ends = of_kind is_end_note rest in cond (is_death_note note) (note ∷ filter is_death_note ends) (filter is_death_note ends) ≡ filter is_death_note (cond kind (note ∷ ends) ends))
either_note true note rest h = refl
either_note false note rest h = by (is_death_note note) refl
  where
    by : (b : Bool) → is_death_note note ≡ b → cond b (note ∷ filter is_death_note (of_kind is_end_note rest)) (filter is_death_note (of_kind is_end_note rest)) ≡ filter is_death_note (of_kind is_end_note rest)
    by true e = absurd (let no : false ≡ true = h e in cc)
    by false e = refl

death_ends : (note : Note) → is_death_note note ≡ true → is_end_note note ≡ true
death_ends (notes.Dead i list cause) e = refl
death_ends (notes.Ended i list number status) e = refl
death_ends note e = absurd (let no : false ≡ true = e in cc)

pub deaths_by_ends : (rest : List Note) → filter is_death_note rest ≡ filter is_death_note (of_kind is_end_note rest)
deaths_by_ends [] = refl
deaths_by_ends (note ∷ rest) =
    ap (λ ns. cond (is_death_note note) (note ∷ ns) ns) (deaths_by_ends rest) ∙ either_note (is_end_note note) note rest (death_ends note)

-- ---- how many a step brings
abbrev pub counted : Option FailCause → Option FailCause → ℕ
counted None None = 0
counted (Some cause) None = 1
counted None (Some cause) = 1
counted (Some cause) (Some other) = 2

pub count_by : (i : ℕ) (list : Option ℕ) (one : Option Orb) (dead : Option FailCause) (ended : Option StatusKind) (behind : Option FailCause) → length (filter is_death_note (brought_notes i list one (brings dead ended behind))) ≡ counted dead behind
count_by i list one None None None = refl
count_by i list one None None (Some cause) = refl
count_by i list one None (Some kind) None = refl
count_by i list one None (Some kind) (Some cause) = refl
count_by i list one (Some cause) None None = refl
count_by i list one (Some cause) None (Some other) = refl
count_by i list one (Some cause) (Some kind) None = refl
count_by i list one (Some cause) (Some kind) (Some other) = refl

abbrev few : Brought → Bool
few b = nat_lt 1 (counted b.dead b.dead_behind)

one_dead : (dead : Option FailCause) → nat_lt 1 (counted dead None) ≡ false
one_dead None = refl
one_dead (Some cause) = refl

ended_few : (kind : StatusKind) (dead : Option FailCause) (phase : Phase) → IsShaped (Some kind) dead phase → nat_lt 1 (counted dead (dead_in phase)) ≡ false
ended_few kind None phases.WritingStatus h = refl
ended_few kind (Some cause) phases.WritingStatus h = absurd h
ended_few kind dead phases.WritingLastStatus h = one_dead dead
ended_few kind dead phases.Reset h = absurd h
ended_few kind dead phases.Fetching h = absurd h
ended_few kind dead phases.ReadingTable h = absurd h
ended_few kind dead (phases.ReadingData wanted) h = absurd h
ended_few kind dead phases.Answering h = absurd h
ended_few kind dead phases.ReadingNext h = absurd h
ended_few kind dead phases.Suspended h = absurd h
ended_few kind dead phases.Dead h = absurd h

unsent_few : (step : AgentStep) (phase : Phase) (ended : Option StatusKind) → IsShaped ended step.dead phase → few (brought_unsent step phase ended) ≡ false
unsent_few step phase (Some kind) h = ended_few kind step.dead phase h
unsent_few step phase None h = one_dead (dead_in phase)

brought_few : (b : Bool) (step : AgentStep) (phase : Phase) → IsShaped step.ended step.dead phase → few (brought b step phase) ≡ false
brought_few true step phase h = one_dead step.dead
brought_few false step phase h = unsent_few step phase step.ended h

-- ---- an agent that is DEAD does nothing
last_quiet : (place : ℕ) (plain : PlainDisk) (told : Told) (phase : Phase) (m : Machine) (answer : Answer) → state_in phase ≡ states.Dead → (served place plain told (advanced phase m answer).0 (advanced phase m answer).1).0 ≡ quiet
last_quiet place plain told phases.Dead m answer e = refl
last_quiet place plain told phases.WritingLastStatus m answer e = refl
last_quiet place plain told phases.Reset m answer e = absurd (let no : states.Reset ≡ states.Dead = e in cc)
last_quiet place plain told phases.Suspended m answer e = absurd (let no : states.Suspended ≡ states.Dead = e in cc)
last_quiet place plain told phases.Fetching m answer e = absurd (let no : states.Active ≡ states.Dead = e in cc)
last_quiet place plain told phases.ReadingTable m answer e = absurd (let no : states.Active ≡ states.Dead = e in cc)
last_quiet place plain told (phases.ReadingData wanted) m answer e = absurd (let no : states.Active ≡ states.Dead = e in cc)
last_quiet place plain told phases.Answering m answer e = absurd (let no : states.Active ≡ states.Dead = e in cc)
last_quiet place plain told phases.WritingStatus m answer e = absurd (let no : states.Active ≡ states.Dead = e in cc)
last_quiet place plain told phases.ReadingNext m answer e = absurd (let no : states.Active ≡ states.Dead = e in cc)

read_quiet : (m : Machine) (bytes : Result (List ℕ) FailCause) → (ahead_read m bytes).0 ≡ quiet
read_quiet m (Ok bytes) = refl
read_quiet m (Err cause) = refl

ahead_quiet : (b : Bool) (m : Machine) (answer : Answer) → (cond b (ahead_step m answer) (quiet, m)).0 ≡ quiet
ahead_quiet true m answer = read_quiet m (payload_of answer 32)
ahead_quiet false m answer = refl

dead_quiet : (m : Machine) (place : ℕ) (plain : PlainDisk) (told : Option Told) (which : Which) (answer : Answer) → state_in m.phase ≡ states.Dead → (reply_step m place plain told which answer).0 ≡ quiet
unfolding reply_step
dead_quiet m place plain told Main answer e = last_quiet place plain (told_or told) m.phase m answer e
dead_quiet m place plain told Ahead answer e = ahead_quiet (is_ahead m.ahead) m answer

dead_points : (m : Machine) (pointer : OrbPointer) → state_in m.phase ≡ states.Dead → (point_step m pointer).0 ≡ (point_in states.Dead m pointer).0
unfolding point_step
dead_points m pointer e = ap (λ x. (point_in x m pointer).0) e

dead_rings : (m : Machine) → state_in m.phase ≡ states.Dead → (doorbell_step m).0 ≡ (doorbell_in states.Dead m).0
unfolding doorbell_step
dead_rings m e = ap (λ x. (doorbell_in x m).0) e

-- it is DEAD or not
dead_or : (phase : Phase) (m : Machine) → m.phase ≡ phase → (is_dead m ≡ false) ⊎ (state_in m.phase ≡ states.Dead)
dead_or phases.Reset m e = inl (ap (λ p. is_dead (record m { phase = p })) e)
dead_or phases.Fetching m e = inl (ap (λ p. is_dead (record m { phase = p })) e)
dead_or phases.ReadingTable m e = inl (ap (λ p. is_dead (record m { phase = p })) e)
dead_or (phases.ReadingData wanted) m e = inl (ap (λ p. is_dead (record m { phase = p })) e)
dead_or phases.Answering m e = inl (ap (λ p. is_dead (record m { phase = p })) e)
dead_or phases.WritingStatus m e = inl (ap (λ p. is_dead (record m { phase = p })) e)
dead_or phases.ReadingNext m e = inl (ap (λ p. is_dead (record m { phase = p })) e)
dead_or phases.Suspended m e = inl (ap (λ p. is_dead (record m { phase = p })) e)
dead_or phases.WritingLastStatus m e = inr (ap state_in e)
dead_or phases.Dead m e = inr (ap state_in e)

-- ---- one turn
abbrev IsFine : ℕ → Bool → Type 0
IsFine n dead = (nat_lt 1 n || (nat_lt 0 n && dead)) ≡ false

fine_few : (n : ℕ) (dead : Bool) → nat_lt 1 n ≡ false → dead ≡ false → IsFine n dead
fine_few n dead e f = ap (λ b. b || (nat_lt 0 n && dead)) e ∙ (ap (λ x. nat_lt 0 n && x) f ∙ and_false (nat_lt 0 n))

fine_none : (n : ℕ) (dead : Bool) → n ≡ 0 → IsFine n dead
fine_none n dead e = ap (λ k. nat_lt 1 k || (nat_lt 0 k && dead)) e

module _ (start : List Disk) (T : Target) (t : Turn) where
  module _ (a : AgentTurn) where
    abbrev i : ℕ
    i = initiator_at T (wire_before t) a.place

    abbrev list : Option ℕ
    list = list_taken start (t.start ∷ t.past) a.place

    abbrev one : Option Orb
    one = named t.past i a.machine.present

    abbrev fifo : ℕ
    fifo = fifo_in (login_at T a.place)

    abbrev brings_of : AgentStep → Brought
    brings_of step = brought (found_by (finds_first T t a) (body_of step.ask a.machine step.ended fifo)) step a.machine.phase

    count_is : deaths (agent_notes_for start T t a) ≡ counted (brings_of a.step).dead (brings_of a.step).dead_behind
    count_is =
        let b = brings_of a.step in
        ap deaths (notes_tried (finds_first T t a) (finds_label (wire_after t) 0 (suc i)) fifo i list one a.step a.machine (body_of a.step.ask a.machine a.step.ended fifo))
        ∙ count_by i list one b.dead b.ended b.dead_behind

    few_deaths : IsShaped a.step.ended a.step.dead a.machine.phase → nat_lt 1 (deaths (agent_notes_for start T t a)) ≡ false
    few_deaths h = ap (λ n. nat_lt 1 n) count_is ∙ brought_few (found_by (finds_first T t a) (body_of a.step.ask a.machine a.step.ended fifo)) a.step a.machine.phase h

    no_deaths : a.step ≡ quiet → deaths (agent_notes_for start T t a) ≡ 0
    no_deaths e = count_is ∙ ap (λ step. counted (brings_of step).dead (brings_of step).dead_behind) e

  abbrev Fine : (m : Machine) → List Note → Type 0
  Fine m due = IsFine (deaths due) (is_dead m)

  -- a reply
  reply_fine : (a : AgentTurn) (m : Machine) → IsShaped a.step.ended a.step.dead a.machine.phase → (state_in m.phase ≡ states.Dead → a.step ≡ quiet) → Fine m (agent_notes_for start T t a)
  reply_fine a m shaped dead = by (dead_or m.phase m refl)
    where
      by : (is_dead m ≡ false) ⊎ (state_in m.phase ≡ states.Dead) → Fine m (agent_notes_for start T t a)
      by (inl up) = fine_few (deaths (agent_notes_for start T t a)) (is_dead m) (few_deaths a shaped) up
      by (inr down) = fine_none (deaths (agent_notes_for start T t a)) (is_dead m) (no_deaths a (dead down))

  -- a pointer, and a doorbell
  pointer_fine : (q : ℕ) (m : Machine) (r : Result Ask PointRefusal × Machine) (refusal : PointRefusal) → (state_in m.phase ≡ states.Dead → r.0 ≡ Err refusal) → Fine m (ends_by start T t (by_pointer q (agent_at T q) r))
  pointer_fine q m (Err other, n) refusal dead = fine_none 0 (is_dead m) refl
  pointer_fine q m (Ok ask, n) refusal dead = by (dead_or m.phase m refl)
    where
      by : (is_dead m ≡ false) ⊎ (state_in m.phase ≡ states.Dead) → Fine m (ends_by start T t (by_pointer q (agent_at T q) (Ok ask, n)))
      by (inl up) = fine_few _ (is_dead m) (few_deaths (record { place = q; untold = (agent_at T q).untold; which = Main; step = asks ask; machine = n }) tt) up
      by (inr down) = absurd (let no : Ok ask ≡ Err refusal = dead down in cc)

  ring_fine : (q : ℕ) (m : Machine) (r : Ask × Machine) → (state_in m.phase ≡ states.Dead → asks r.0 ≡ quiet) → Fine m (ends_by start T t (by_doorbell q (agent_at T q) r))
  ring_fine q m (ask, n) dead = reply_fine (record { place = q; untold = (agent_at T q).untold; which = Main; step = asks ask; machine = n }) m tt dead

  pub event_fine : (event : Event) (rest : List Note) → IsFine (deaths (ends_by start T t (agent_turn event T (wire_before t) rest))) (was_dead T event)
  event_fine nothing rest = refl
  event_fine (replies reply) rest =
      let i = initiator_at T (wire_before t) reply.place in
      let m = (agent_at T reply.place).machine in
      let plain = plain_for T reply in
      let told = told_among i rest plain in
      let s = reply_step m reply.place plain told reply.which reply.answer in
      reply_fine (record { place = reply.place; untold = untold_among i rest plain (agent_at T reply.place).untold; which = reply.which; step = s.0; machine = s.1 }) m
      (reply_shaped m reply.place plain told reply.which reply.answer).0 (dead_quiet m reply.place plain told reply.which reply.answer)
  event_fine (writes agent_state q access) rest = refl
  event_fine (writes agent_reset q access) rest = refl
  event_fine (writes unsolicited_enable q access) rest = refl
  event_fine (writes orb_pointer q access) rest =
      let m = (agent_at T q).machine in
      let pointer = pointer_at access.payload 0 in pointer_fine q m (point_step m pointer) refusals.Conflict (λ e. dead_points m pointer e)
  event_fine (writes doorbell q access) rest = let m = (agent_at T q).machine in ring_fine q m (doorbell_step m) (λ e. ap asks (dead_rings m e))

once_of : (start : List Disk) (t : Turn) → EndsWhereDue start t → DiesOnce start t
once_of start t h =
    let T = target_before start t in
    let event = agent_event start t in
    ap (λ n. nat_lt 1 n || (nat_lt 0 n && was_dead T event)) (ap length (deaths_by_ends t.rest ∙ ap (filter is_death_note) h)) ∙ event_fine start T t event t.rest

pub once_law : OnceLaw
once_law = brought_law EndsWhereDue DiesOnce once_of ends_law
