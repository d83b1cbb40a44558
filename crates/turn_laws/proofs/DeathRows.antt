-- The deaths that the laws compute for a turn have their rows, where an answer that it brings to a main transaction is one to what the agent asked for.
use Rattle.std.proofs.Common.{◌≡◌, ◌∙◌, refl, sym, ap, subst, ℕ, suc, ◌||◌, not, is_some, Bool, true, false, List, [], ◌∷◌, ◌++◌, Option, Some, None, Result, Ok, Err}
use Rattle.label_table.specs.Bodies.{Body}
use Rattle.orb_layout.specs.declared.ask.Ask.{Ask}
use Rattle.orb_layout.specs.declared.ask.FailCause.{FailCause}
use Rattle.orb_layout.specs.declared.ask.FailCause.TheVariants as causes
use Rattle.orb_layout.specs.declared.status.StatusKind.{StatusKind}
use Rattle.orb_layout.specs.Pointers.{pointer_at}
use Rattle.orb_layout.specs.Replies.{Answer}
use Rattle.rbc_disk.specs.Disk.{Disk}
use Rattle.rbc_disk.specs.Runs.{Told}
use Rattle.rbc_disk.specs.Units.{PlainDisk}
use Rattle.command_agent.specs.Machine.{Machine}
use Rattle.command_agent.specs.Steps.{asks, doorbell_step, point_step, reply_step}
use Rattle.command_agent.specs.declared.phase.Phase.{Phase}
use Rattle.command_agent.specs.declared.phase.Phase.TheVariants as phases
use Rattle.command_agent.specs.declared.step.PointRefusal.{PointRefusal}
use Rattle.command_agent.specs.declared.step.Which.{Which}
use Rattle.command_agent.specs.declared.step.Which.TheVariants.{Ahead, Main}
use Rattle.agent_laws.specs.Along.Requests.{main_under}
use Rattle.sbp_journal.specs.Addresses.{Access, agent_reset, agent_state, doorbell, orb_pointer, unsolicited_enable}
use Rattle.sbp_journal.specs.Run.{Moment}
use Rattle.sbp_journal.specs.Wire.{terms}
use Rattle.sbp_journal.specs.declared.note.Note.{Note}
use Rattle.sbp_journal.specs.declared.note.Note.TheVariants as notes
use Rattle.sbp_laws.specs.Agents.{AgentTurn, Event, agent_event, agent_notes_for, agent_turn, body_of, by_doorbell, by_pointer, dead_note, ended_note, event_by, fifo_in, finds_first, list_taken, nothing, replies, target_before, told_among, untold_among, wire_after, wire_before, writes}
use Rattle.sbp_laws.specs.Deaths.{DeathsHaveRows, access_by, asks_in_vain, death_row, ends_by, is_expired, is_main_short, is_refused, lacks_label, main_answer, meaning_by}
use Rattle.sbp_laws.specs.Lists.{Orb, named}
use Rattle.sbp_laws.specs.NoteKinds.{is_end_note, of_kind}
use Rattle.sbp_laws.specs.Packets.{finds_label}
use Rattle.sbp_laws.specs.Targets.{Reply, Target, agent_at, initiator_at, login_at, over, plain_for, target_at}
use Rattle.sbp_laws.specs.Turns.{Turn}
use Rattle.turn_laws.specs.Ends.{EndsWhereDue}
use Rattle.sbp_world.proofs.Completing.DeathsSteps.{ahead_lives}
use Rattle.turn_laws.proofs.DeathSteps.{FairFor, Has, Row, main_dies}
use Rattle.turn_laws.proofs.EndTries.{Brought, brings, brought, brought_notes, brought_unsent, dead_in, fails_in, found_by, notes_tried}
use Rattle.turn_laws.proofs.IdleAheads.{idle_ahead}
use Rattle.sbp_world.proofs.Common.{none_is}

-- An answer to a main transaction is one to what the agent asked for.
abbrev pub AnswersAt : List Disk → List Moment → Moment → Type 0
AnswersAt start past moment =
    (reply : Reply) → (let T = over (target_at start past) in let wire = terms past in event_by moment T wire ≡ replies reply → reply.which ≡ Main → (let a = agent_at T reply.place in FairFor (main_under a.machine) reply.answer (access_by wire a.main)))

abbrev pub AnswersFairly : List Disk → Turn → Type 0
AnswersFairly start t = AnswersAt start t.past t.start

lacks : (finds : Body → Bool) (body : Option Body) → found_by finds body ≡ false → lacks_label finds body ≡ true
lacks finds None e = absurd (let no : true ≡ false = e in cc)
lacks finds (Some body) e = ap not e

-- a loss for want of a label
by_label : (phase : Phase) (cause : FailCause) → dead_in phase ≡ Some cause → causes.Label ≡ cause
by_label phases.Reset cause e = none_is cause e
by_label phases.Suspended cause e = none_is cause e
by_label phases.Dead cause e = none_is cause e
by_label phases.WritingLastStatus cause e = none_is cause e
by_label phases.Fetching cause e = cc
by_label phases.ReadingTable cause e = cc
by_label (phases.ReadingData wanted) cause e = cc
by_label phases.Answering cause e = cc
by_label phases.WritingStatus cause e = cc
by_label phases.ReadingNext cause e = cc

module _ (start : List Disk) (t : Turn) where
  abbrev T : Target
  T = target_before start t

  abbrev event : Event
  event = agent_event start t

  abbrev Rows : List Note → Type 0
  Rows rest = DeathsHaveRows start t rest

  abbrev HasRow : FailCause → Type 0
  HasRow cause = death_row cause start t ≡ true

  abbrev HaveRows : Option FailCause → Type 0
  HaveRows dead = (cause : FailCause) → dead ≡ Some cause → HasRow cause

  -- ---- notes of deaths and ends
  dead_rows : (i : ℕ) (list : Option ℕ) (dead : Option FailCause) (more : List Note) → HaveRows dead → Rows more → Rows (dead_note i list dead ++ more)
  dead_rows i list None more f h = h
  dead_rows i list (Some cause) more f h = (f cause refl, h)

  last_rows : (i : ℕ) (list : Option ℕ) (dead : Option FailCause) → HaveRows dead → Rows (dead_note i list dead)
  last_rows i list None f = tt
  last_rows i list (Some cause) f = (f cause refl, tt)

  ended_rows : (i : ℕ) (one : Option Orb) (ended : Option StatusKind) (more : List Note) → Rows more → Rows (ended_note i one ended ++ more)
  ended_rows i one None more h = h
  ended_rows i one (Some kind) more h = h

  brought_rows : (i : ℕ) (list : Option ℕ) (one : Option Orb) (b : Brought) → HaveRows b.dead → HaveRows b.dead_behind → Rows (brought_notes i list one b)
  brought_rows i list one b f g =
      let behind = dead_note i list b.dead_behind in
      dead_rows i list b.dead (ended_note i one b.ended ++ behind) f (ended_rows i one b.ended behind (last_rows i list b.dead_behind g))

  -- ---- of an agent's turn
  module _ (a : AgentTurn) (is : agent_turn event T (wire_before t) t.rest ≡ Some a) (dies : HaveRows a.step.dead) where
    abbrev i : ℕ
    i = initiator_at T (wire_before t) a.place

    abbrev list : Option ℕ
    list = list_taken start (t.start ∷ t.past) a.place

    abbrev one : Option Orb
    one = named t.past i a.machine.present

    abbrev fifo : ℕ
    fifo = fifo_in (login_at T a.place)

    abbrev body : Option Body
    body = body_of a.step.ask a.machine a.step.ended fifo

    label_row : found_by (finds_first T t a) body ≡ false → HasRow causes.Label
    label_row e = ap (asks_in_vain T t) is ∙ lacks (finds_first T t a) body e

    lost_rows : HasRow causes.Label → HaveRows (dead_in a.machine.phase)
    lost_rows h cause e = subst HasRow (by_label a.machine.phase cause e) h

    unsent_rows : HasRow causes.Label → (ended : Option StatusKind) → Rows (brought_notes i list one (brought_unsent a.step a.machine.phase ended))
    unsent_rows h (Some kind) = let phase = a.machine.phase in brought_rows i list one (brings a.step.dead (Some kind) (dead_in phase)) dies (lost_rows h)
    unsent_rows h None = let phase = a.machine.phase in brought_rows i list one (brings (dead_in phase) (fails_in phase) None) (lost_rows h) (λ cause e. none_is cause e)

    step_rows : (b : Bool) → found_by (finds_first T t a) body ≡ b → Rows (brought_notes i list one (brought b a.step a.machine.phase))
    step_rows true e = brought_rows i list one (brings a.step.dead a.step.ended None) dies (λ cause f. none_is cause f)
    step_rows false e = unsent_rows (label_row e) a.step.ended

    agent_rows : Rows (agent_notes_for start T t a)
    agent_rows =
        subst Rows (sym (notes_tried (finds_first T t a) (finds_label (wire_after t) 0 (suc i)) fifo i list one a.step a.machine body))
        (step_rows (found_by (finds_first T t a) body) refl)

  -- ---- at a reply to the main transaction
  module _ (q : ℕ) (answer : Answer) (is : event ≡ replies (record { place = q; which = Main; answer = answer })) where
    abbrev m : Machine
    m = (agent_at T q).machine

    abbrev access : Option Access
    access = access_by (wire_before t) (agent_at T q).main

    row_of : (cause : FailCause) → Row m answer access m.phase cause → HasRow cause
    row_of causes.Timeout h = ap (λ (e : Event). is_expired (main_answer e)) is ∙ h
    row_of causes.Refused h = ap (λ (e : Event). is_refused (main_answer e)) is ∙ h
    row_of causes.Grammar h = ap (λ (e : Event). is_main_short T (wire_before t) e || is_some (meaning_by T e)) is ∙ h
    row_of causes.Label h = absurd h

    rows_by : (dead : Option FailCause) → Has m answer access m.phase dead → HaveRows dead
    rows_by None h cause e = none_is cause e
    rows_by (Some other) h cause e = let same : other ≡ cause = cc in subst HasRow same (row_of other h)

    main_rows : FairFor (main_under m) answer access → (place : ℕ) (plain : PlainDisk) (told : Option Told) → HaveRows (reply_step m place plain told Main answer).0.dead
    main_rows fair place plain told = rows_by (reply_step m place plain told Main answer).0.dead (main_dies m answer access place plain told fair (idle_ahead start t.past q))

  -- ---- at each event
  none_rows : (dead : Option FailCause) → dead ≡ None → HaveRows dead
  none_rows dead e cause f = none_is cause (sym e ∙ f)

  reply_dies : AnswersFairly start t → (q : ℕ) (which : Which) (answer : Answer) → event ≡ replies (record { place = q; which = which; answer = answer }) → (plain : PlainDisk) (told : Option Told) → HaveRows (reply_step (agent_at T q).machine q plain told which answer).0.dead
  reply_dies fair q Main answer e plain told = main_rows q answer e (fair (record { place = q; which = Main; answer = answer }) e refl) q plain told
  reply_dies fair q Ahead answer e plain told =
      let m = (agent_at T q).machine in none_rows (reply_step m q plain told Ahead answer).0.dead (ahead_lives m q plain told answer)

  pointer_rows : (q : ℕ) (r : Result Ask PointRefusal × Machine) → agent_turn event T (wire_before t) t.rest ≡ by_pointer q (agent_at T q) r → Rows (ends_by start T t (by_pointer q (agent_at T q) r))
  pointer_rows q (Err refusal, n) e = tt
  pointer_rows q (Ok ask, n) e = agent_rows (record { place = q; untold = (agent_at T q).untold; which = Main; step = asks ask; machine = n }) e (none_rows None refl)

  ring_rows : (q : ℕ) (r : Ask × Machine) → agent_turn event T (wire_before t) t.rest ≡ by_doorbell q (agent_at T q) r → Rows (ends_by start T t (by_doorbell q (agent_at T q) r))
  ring_rows q (ask, n) e = agent_rows (record { place = q; untold = (agent_at T q).untold; which = Main; step = asks ask; machine = n }) e (none_rows None refl)

  event_rows : AnswersFairly start t → (e : Event) → event ≡ e → Rows (ends_by start T t (agent_turn e T (wire_before t) t.rest))
  event_rows fair nothing is = tt
  event_rows fair (replies reply) is =
      let wire = wire_before t in
      let i = initiator_at T wire reply.place in
      let m = (agent_at T reply.place).machine in
      let plain = plain_for T reply in
      let told = told_among i t.rest plain in
      let s = reply_step m reply.place plain told reply.which reply.answer in
      agent_rows (record { place = reply.place; untold = untold_among i t.rest plain (agent_at T reply.place).untold; which = reply.which; step = s.0; machine = s.1 })
      (ap (λ (x : Event). agent_turn x T wire t.rest) is) (reply_dies fair reply.place reply.which reply.answer is plain told)
  event_rows fair (writes agent_state q given) is = tt
  event_rows fair (writes agent_reset q given) is = tt
  event_rows fair (writes unsolicited_enable q given) is = tt
  event_rows fair (writes orb_pointer q given) is =
      pointer_rows q (point_step (agent_at T q).machine (pointer_at given.payload 0)) (ap (λ (x : Event). agent_turn x T (wire_before t) t.rest) is)
  event_rows fair (writes doorbell q given) is = ring_rows q (doorbell_step (agent_at T q).machine) (ap (λ (x : Event). agent_turn x T (wire_before t) t.rest) is)

  -- and those that stand in the turn are those
  kept_rows : (rest : List Note) → Rows (of_kind is_end_note rest) → Rows rest
  kept_rows [] h = tt
  kept_rows (notes.Dead j n cause ∷ rest) h = (h.0, kept_rows rest h.1)
  kept_rows (notes.Ended j n k kind ∷ rest) h = kept_rows rest h
  kept_rows (note ∷ rest) h = kept_rows rest h

  pub rows_told : EndsWhereDue start t → AnswersFairly start t → Rows t.rest
  rows_told ends fair = kept_rows t.rest (subst Rows (sym ends) (event_rows fair event refl))
