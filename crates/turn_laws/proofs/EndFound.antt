-- The deaths and ends that the laws try of an agent's step are those that the target tells of it: their agents are alike and their first requests one, but for a chunk of an answer that its medium did not
-- tell, whose label is as the turn tells.
use Rattle.std.proofs.Common.{arith, ◌≡◌, ◌∙◌, refl, sym, ap, subst, ℕ, suc, ◌≤◌, ◌&&◌, ◌||◌, not, nat_le, is_some, Bool, true, false, cond, List, [], ◌∷◌, ◌++◌, length, Option, Some, None}
use Rattle.std.proofs.lemmas.Bool.Decides.{nat_tests}
use Rattle.std.specs.List.{list_any}
use Rattle.async_packet.specs.Fields.{largest}
use Rattle.label_table.specs.Bodies.{Body, block_read, block_write}
use Rattle.orb_layout.specs.declared.ask.Ask.{Ask}
use Rattle.orb_layout.specs.declared.ask.Ask.TheVariants.{Nothing, Read, Write}
use Rattle.orb_layout.specs.declared.ask.FailCause.{FailCause}
use Rattle.orb_layout.specs.declared.ask.FailCause.TheVariants as causes
use Rattle.orb_layout.specs.declared.status.StatusKind.{StatusKind}
use Rattle.orb_layout.specs.declared.status.StatusKind.TheVariants as kinds
use Rattle.command_agent.specs.Machine.{Machine, has_present}
use Rattle.command_agent.specs.Tasks.{writes_status}
use Rattle.command_agent.specs.declared.phase.Phase.{Phase}
use Rattle.command_agent.specs.declared.phase.Phase.TheVariants as phases
use Rattle.command_agent.specs.declared.step.AgentStep.{AgentStep}
use Rattle.sbp_journal.specs.declared.note.Note.{Note}
use Rattle.sbp_journal.specs.declared.note.Note.TheVariants as notes
use Rattle.sbp_laws.specs.Agents.{AgentTurn, agent_outcomes, body_of, dead_note, end_notes, ended_note, finds_first, is_answering, is_dead_label, is_untold_chunk, lacks_label_told, wire_after, wire_before, fifo_in}
use Rattle.sbp_laws.specs.Lists.{Orb}
use Rattle.sbp_laws.specs.NoteKinds.{is_end_note, of_kind}
use Rattle.sbp_laws.specs.Packets.{finds_label}
use Rattle.sbp_laws.specs.Targets.{Target, initiator_at, login_at}
use Rattle.sbp_laws.specs.Turns.{Turn}
use Rattle.sbp_target.specs.Agents.{agent_body}
use Rattle.sbp_target.proofs.Histories.Stepped.{Carries}
use Rattle.sbp_world.specs.Agents.Alike.{Alike, answers}
use Rattle.turn_laws.proofs.EndShapes.{IsMute, IsShapedStep, IsUnderWay}
use Rattle.turn_laws.proofs.EndTries.{Brought, IsShaped, brings, brought, brought_notes, brought_unsent, fails_in, found_by, notes_tried}

-- ---- a request, as the target and as the laws spell it
pub fits : (n : ℕ) → n ≤ 2048 → nat_le n largest ≡ true
fits n c = grind (arith, nat_tests)

pub body_same : (ask : Ask) (ended : Option StatusKind) (fifo : ℕ) (m : Machine) → Carries ask m.outgoing → agent_body ask (is_some ended) fifo m.outgoing ≡ body_of ask m ended fifo
body_same Nothing ended fifo m c = refl
body_same (Read offset len) ended fifo m c = ap (λ b. cond b (Some (block_read offset len)) None) (fits len c)
body_same (Write offset len) None fifo m c = ap (λ b. cond b (Some (block_write offset m.outgoing)) None) (fits (length m.outgoing) c)
body_same (Write offset len) (Some kind) fifo m c = ap (λ b. cond b (Some (block_write fifo m.outgoing)) None) (fits (length m.outgoing) c)

pub answering_is : (phase : Phase) → is_answering phase ≡ true → phase ≡ phases.Answering
answering_is phases.Answering e = refl
answering_is phases.Reset e = absurd (let no : false ≡ true = e in cc)
answering_is phases.Fetching e = absurd (let no : false ≡ true = e in cc)
answering_is phases.ReadingTable e = absurd (let no : false ≡ true = e in cc)
answering_is (phases.ReadingData wanted) e = absurd (let no : false ≡ true = e in cc)
answering_is phases.WritingStatus e = absurd (let no : false ≡ true = e in cc)
answering_is phases.ReadingNext e = absurd (let no : false ≡ true = e in cc)
answering_is phases.WritingLastStatus e = absurd (let no : false ≡ true = e in cc)
answering_is phases.Suspended e = absurd (let no : false ≡ true = e in cc)
answering_is phases.Dead e = absurd (let no : false ≡ true = e in cc)

answering : (phase : Phase) → is_answering phase ≡ true → answers phase ≡ true
answering phase e = ap answers (answering_is phase e)

pub status_of : (kind : StatusKind) (dead : Option FailCause) (phase : Phase) → IsShaped (Some kind) dead phase → writes_status phase ≡ true
status_of kind dead phases.WritingStatus h = refl
status_of kind dead phases.WritingLastStatus h = refl
status_of kind dead phases.Reset h = absurd h
status_of kind dead phases.Fetching h = absurd h
status_of kind dead phases.ReadingTable h = absurd h
status_of kind dead (phases.ReadingData wanted) h = absurd h
status_of kind dead phases.Answering h = absurd h
status_of kind dead phases.ReadingNext h = absurd h
status_of kind dead phases.Suspended h = absurd h
status_of kind dead phases.Dead h = absurd h

told_all : (u : Bool) (x : Bool) → x ≡ true → (u && x) ≡ false → u ≡ false
told_all false x e f = refl
told_all true x e f = absurd (let no : true ≡ false = sym e ∙ f in cc)

-- of two agents that are alike, but for a chunk that is not told
bodies_alike : (u : Bool) (a m : Machine) (al : Alike u a m) (ask : Ask) (ended : Option StatusKind) (dead : Option FailCause) (fifo : ℕ) → IsShaped ended dead m.phase → IsUnderWay ended ask m.phase → (u && is_answering m.phase) ≡ false → body_of ask a ended fifo ≡ body_of ask m ended fifo
bodies_alike u a m al Nothing ended dead fifo h w e = refl
bodies_alike u a m al (Read offset len) ended dead fifo h w e = refl
bodies_alike u a m al (Write offset len) (Some kind) dead fifo h w e = ap (λ bytes. Some (block_write fifo bytes)) (al.status (status_of kind dead m.phase h))
bodies_alike u a m al (Write offset len) None dead fifo h w e =
    ap (λ bytes. Some (block_write offset bytes)) (al.chunk (answering m.phase w.1) (told_all u (is_answering m.phase) w.1 e))

-- ---- what a turn tells of a label that is not there, by its deaths
abbrev any_label : List Note → Bool
any_label rest = list_any is_dead_label rest

either_note : (kind : Bool) (note : Note) (rest : List Note) → (is_dead_label note ≡ true → kind ≡ true) → (is_dead_label note || any_label (of_kind is_end_note rest)) ≡ any_label (cond kind (note ∷ of_kind is_end_note rest) (of_kind is_end_note rest))
either_note true note rest h = refl
either_note false note rest h = by (is_dead_label note) refl
  where
    by : (b : Bool) → is_dead_label note ≡ b → (b || any_label (of_kind is_end_note rest)) ≡ any_label (of_kind is_end_note rest)
    by true e = absurd (let no : false ≡ true = h e in cc)
    by false e = refl

label_ends : (note : Note) → is_dead_label note ≡ true → is_end_note note ≡ true
label_ends (notes.Dead i list cause) e = refl
label_ends (notes.Ended i list number status) e = refl
label_ends note e = absurd (let no : false ≡ true = e in cc)

lacks_by_ends : (rest : List Note) → any_label rest ≡ any_label (of_kind is_end_note rest)
lacks_by_ends [] = refl
lacks_by_ends (note ∷ rest) = ap (λ b. is_dead_label note || b) (lacks_by_ends rest) ∙ either_note (is_end_note note) note rest (label_ends note)

-- ---- an ORB that ends is there
shaped_there : (kind : StatusKind) (dead : Option FailCause) (phase : Phase) → IsShaped (Some kind) dead phase → has_present phase ≡ true
shaped_there kind dead phases.WritingStatus h = refl
shaped_there kind dead phases.WritingLastStatus h = refl
shaped_there kind dead phases.Reset h = absurd h
shaped_there kind dead phases.Fetching h = refl
shaped_there kind dead phases.ReadingTable h = refl
shaped_there kind dead (phases.ReadingData wanted) h = refl
shaped_there kind dead phases.Answering h = refl
shaped_there kind dead phases.ReadingNext h = absurd h
shaped_there kind dead phases.Suspended h = absurd h
shaped_there kind dead phases.Dead h = absurd h

pub failed_there : (kind : StatusKind) (phase : Phase) → fails_in phase ≡ Some kind → has_present phase ≡ true
failed_there kind phases.Fetching e = refl
failed_there kind phases.ReadingTable e = refl
failed_there kind (phases.ReadingData wanted) e = refl
failed_there kind phases.Answering e = refl
failed_there kind phases.WritingStatus e = refl
failed_there kind phases.WritingLastStatus e = refl
failed_there kind phases.Reset e = absurd (let no : None ≡ Some kind = e in cc)
failed_there kind phases.ReadingNext e = absurd (let no : None ≡ Some kind = e in cc)
failed_there kind phases.Suspended e = absurd (let no : None ≡ Some kind = e in cc)
failed_there kind phases.Dead e = absurd (let no : None ≡ Some kind = e in cc)

unsent_there : (kind : StatusKind) (step : AgentStep) (phase : Phase) (ended : Option StatusKind) → IsShaped ended step.dead phase → (brought_unsent step phase ended).ended ≡ Some kind → has_present phase ≡ true
unsent_there kind step phase (Some other) h e = shaped_there other step.dead phase h
unsent_there kind step phase None h e = failed_there kind phase e

step_there : (kind : StatusKind) (dead : Option FailCause) (phase : Phase) (ended : Option StatusKind) → IsShaped ended dead phase → ended ≡ Some kind → has_present phase ≡ true
step_there kind dead phase (Some other) h e = shaped_there other dead phase h
step_there kind dead phase None h e = absurd (let no : None ≡ Some kind = e in cc)

ended_there : (kind : StatusKind) (b : Bool) (step : AgentStep) (phase : Phase) → IsShaped step.ended step.dead phase → (brought b step phase).ended ≡ Some kind → has_present phase ≡ true
ended_there kind true step phase h e = step_there kind step.dead phase step.ended h e
ended_there kind false step phase h e = unsent_there kind step phase step.ended h e

-- it has one name by both
module _ (i : ℕ) (list : Option ℕ) (one other : Option Orb) where
  end_named : (ended : Option StatusKind) → ((kind : StatusKind) → ended ≡ Some kind → one ≡ other) → ended_note i one ended ≡ ended_note i other ended
  end_named None f = refl
  end_named (Some kind) f = ap (λ o. ended_note i o (Some kind)) (f kind refl)

  named_alike : (b : Brought) → ((kind : StatusKind) → b.ended ≡ Some kind → one ≡ other) → brought_notes i list one b ≡ brought_notes i list other b
  named_alike b f = ap (λ ns. dead_note i list b.dead ++ (ns ++ dead_note i list b.dead_behind)) (end_named b.ended f)

-- ---- the outcomes of an agent's turn
module _ (T : Target) (t : Turn) (a : AgentTurn) (step : AgentStep) (m : Machine) (step_is : a.step ≡ step) (al : Alike a.untold a.machine m) (shaped : IsShapedStep (step, m)) where
  abbrev i : ℕ
  i = initiator_at T (wire_before t) a.place

  abbrev fifo : ℕ
  fifo = fifo_in (login_at T a.place)

  abbrev its : Body → Bool
  its = finds_label (wire_after t) 0 (suc i)

  abbrev asked : Option Body
  asked = body_of a.step.ask a.machine a.step.ended fifo

  abbrev own : Option Body
  own = body_of step.ask m step.ended fifo

  -- where the medium told all
  told_found : (a.untold && is_answering m.phase) ≡ false → found_by its asked ≡ found_by its own
  told_found e =
      ap (λ (s : AgentStep). found_by its (body_of s.ask a.machine s.ended fifo)) step_is
      ∙ ap (found_by its) (bodies_alike a.untold a.machine m al step.ask step.ended step.dead fifo shaped.0 shaped.1.1 e)

  -- and where it told no answer
  module _ (found : Bool) (list : Option ℕ) (one : Option Orb) (ends : of_kind is_end_note t.rest ≡ brought_notes i list one (brought found step m.phase)) where
    lacks : (notes : List Note) → of_kind is_end_note t.rest ≡ notes → lacks_label_told t ≡ any_label notes
    lacks notes e = lacks_by_ends t.rest ∙ ap any_label e

    -- it neither dies nor ends but for want of a label
    chunk_by : (b : Bool) → step.ended ≡ None → step.dead ≡ None → m.phase ≡ phases.Answering → found ≡ b → not (lacks_label_told t) ≡ b
    chunk_by true e d p f =
        ap not (lacks [] (ends ∙ (ap (λ x. brought_notes i list one (brought x step m.phase)) f ∙ (ap (λ x. brought_notes i list one (brings x step.ended None)) d ∙ ap (λ x. brought_notes i list one (brings None x None)) e))))
    chunk_by false e d p f =
        ap not (lacks (notes.Dead i list causes.Label ∷ (ended_note i one (Some kinds.Failed) ++ [])) (ends ∙ (ap (λ x. brought_notes i list one (brought x step m.phase)) f
        ∙ (ap (λ x. brought_notes i list one (brought_unsent step x step.ended)) p ∙ ap (λ x. brought_notes i list one (brought_unsent step phases.Answering x)) e))))

    none_ended : (ended : Option StatusKind) (dead : Option FailCause) → IsShaped ended dead phases.Answering → ended ≡ None
    none_ended None dead h = refl
    none_ended (Some kind) dead h = absurd h

    module _ (finds : Body → Bool) (found_is : found ≡ found_by finds own) (chunk : is_answering m.phase ≡ true) where
      ended_none : step.ended ≡ None
      ended_none = none_ended step.ended step.dead (subst (IsShaped step.ended step.dead) (answering_is m.phase chunk) shaped.0)

      abbrev told_so : Body → Bool
      told_so body = not (lacks_label_told t)

      mute_as : (ask : Ask) → step.ask ≡ ask → IsMute None step.dead ask
      mute_as ask e = subst (λ x. IsMute x step.dead ask) ended_none (subst (IsMute step.ended step.dead) e shaped.1.0)

      read_dead : (offset len : ℕ) (dead : Option FailCause) → IsMute None dead (Read offset len) → dead ≡ None
      read_dead offset len None h = refl
      read_dead offset len (Some cause) h = absurd h

      write_dead : (offset len : ℕ) (dead : Option FailCause) → IsMute None dead (Write offset len) → dead ≡ None
      write_dead offset len None h = refl
      write_dead offset len (Some cause) h = absurd h

      so : step.dead ≡ None → not (lacks_label_told t) ≡ found
      so d = chunk_by found ended_none d (answering_is m.phase chunk) refl

      by_ask : (ask : Ask) → step.ask ≡ ask → found ≡ found_by finds (body_of ask m step.ended fifo) → found_by told_so (body_of ask a.machine step.ended fifo) ≡ found_by finds (body_of ask m step.ended fifo)
      by_ask Nothing e f = refl
      by_ask (Read offset len) e f = so (read_dead offset len step.dead (mute_as (Read offset len) e)) ∙ f
      by_ask (Write offset len) e f =
          ap (λ x. found_by told_so (body_of (Write offset len) a.machine x fifo)) ended_none ∙ (so (write_dead offset len step.dead (mute_as (Write offset len) e)) ∙ f)

      pub untold_found : found_by told_so asked ≡ found
      untold_found = ap (λ (s : AgentStep). found_by told_so (body_of s.ask a.machine s.ended fifo)) step_is ∙ (by_ask step.ask refl found_is ∙ sym found_is)

    -- the laws find a label where the target does
    pub found_alike : (finds : Body → Bool) → found ≡ found_by finds own → found_by its own ≡ found → found_by (finds_first T t a) asked ≡ found
    found_alike finds f g = by (is_untold_chunk a) refl
      where
        same_phase : (a.untold && is_answering m.phase) ≡ is_untold_chunk a
        same_phase = ap (λ p. a.untold && is_answering p) (sym al.phase)

        right : (x y : Bool) → (x && y) ≡ true → y ≡ true
        right true true e = refl
        right true false e = e
        right false y e = absurd (let no : false ≡ true = e in cc)

        by : (b : Bool) → is_untold_chunk a ≡ b → found_by (cond b (λ body. not (lacks_label_told t)) its) asked ≡ found
        by true e = untold_found finds f (right a.untold (is_answering m.phase) (same_phase ∙ e))
        by false e = told_found (same_phase ∙ e) ∙ g

    -- so the notes are due
    pub ends_tried : (finds : Body → Bool) (named_one : Option Orb) → found ≡ found_by finds own → found_by its own ≡ found → (has_present m.phase ≡ true → named_one ≡ one) → of_kind is_end_note t.rest ≡ end_notes i list named_one (agent_outcomes T t a)
    ends_tried finds named_one f g names =
        ends
        ∙ (sym (named_alike i list named_one one (brought found step m.phase) (λ kind e. names (ended_there kind found step m.phase shaped.0 e)))
        ∙ (ap (λ p. brought_notes i list named_one (brought found step p)) (sym al.phase)
        ∙ (ap (λ s. brought_notes i list named_one (brought found s a.machine.phase)) (sym step_is)
        ∙ (ap (λ b. brought_notes i list named_one (brought b a.step a.machine.phase)) (sym (found_alike finds f g))
        ∙ sym (notes_tried (finds_first T t a) its fifo i list named_one a.step a.machine asked)))))
