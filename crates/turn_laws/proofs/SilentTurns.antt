-- An ORB ends without a death only where the write of its status finds a label, with the bytes that its agent has for it.
use Rattle.std.proofs.Common.{◌≡◌, ◌∙◌, refl, sym, ap, subst, ℕ, suc, ◌==◌, Bool, true, false, List, [], ◌∷◌, length, Option, Some, None}
use Rattle.std.specs.List.{filter}
use Rattle.label_table.specs.Bodies.{Body, block_write}
use Rattle.label_table.specs.Layer.{Layer}
use Rattle.login_table.specs.declared.login.Login.{Login}
use Rattle.orb_layout.specs.declared.ask.Ask.TheVariants.{Write}
use Rattle.orb_layout.specs.declared.ask.FailCause.{FailCause}
use Rattle.orb_layout.specs.declared.status.StatusKind.{StatusKind}
use Rattle.command_agent.specs.Machine.{Machine, has_present}
use Rattle.command_agent.specs.Steps.{status_phase}
use Rattle.command_agent.specs.Tasks.{writes_status}
use Rattle.command_agent.specs.declared.phase.Phase.{Phase}
use Rattle.command_agent.specs.declared.phase.Phase.TheVariants as phases
use Rattle.command_agent.specs.declared.step.AgentStep.{AgentStep}
use Rattle.rbc_disk.specs.Disk.{Disk}
use Rattle.sbp_journal.specs.declared.note.Note.{Note}
use Rattle.sbp_journal.specs.declared.note.Note.TheVariants as notes
use Rattle.sbp_laws.specs.Agents.{AgentTurn, body_of, fifo_in, list_taken, wire_after, wire_before}
use Rattle.sbp_laws.specs.Deaths.{deaths_in, is_death_note}
use Rattle.sbp_laws.specs.Lists.{Orb, list_in, named, number_in}
use Rattle.sbp_laws.specs.NoteKinds.{is_end_note, of_kind}
use Rattle.sbp_laws.specs.Packets.{finds_label}
use Rattle.sbp_laws.specs.SentWrites.{End, end_in}
use Rattle.sbp_laws.specs.Targets.{Target, initiator_at, login_at}
use Rattle.sbp_laws.specs.Turns.{Turn}
use Rattle.sbp_target.specs.declared.purpose.Purpose.{Purpose}
use Rattle.sbp_target.specs.Telling.{orb_of}
use Rattle.sbp_world.specs.Hosts.Rows.{name_in}
use Rattle.sbp_world.proofs.Common.{none_is, untrue}
use Rattle.turn_laws.proofs.AgentDue.{IsTurnOf, law_found, named_alike, told_is}
use Rattle.turn_laws.proofs.AgentEnds.{found_at}
use Rattle.turn_laws.proofs.EndTries.{Brought, brings, brought, brought_notes, brought_unsent, dead_in, fails_in, found_by}
use Rattle.turn_laws.proofs.Once.{count_by, counted, deaths_by_ends}
use Rattle.turn_laws.proofs.StatusSteps.{EndsAs, IsEnd}

-- the end that a turn tells is among its deaths and ends
pub end_by_ends : (rest : List Note) → end_in rest ≡ end_in (of_kind is_end_note rest)
end_by_ends [] = refl
end_by_ends (notes.Ended i list number kind ∷ rest) = refl
end_by_ends (notes.Dead i list cause ∷ rest) = end_by_ends rest
end_by_ends (note ∷ rest) = end_by_ends rest

-- it is the one that the step brings
abbrev pub end_of : ℕ → Option Orb → Option StatusKind → Option End
end_of i one None = None
end_of i one (Some kind) = Some (record { initiator = i; list = list_in one; number = number_in one; kind = kind })

end_brought : (i : ℕ) (list : Option ℕ) (one : Option Orb) (dead : Option FailCause) (ended : Option StatusKind) (behind : Option FailCause)
    → end_in (brought_notes i list one (brings dead ended behind)) ≡ end_of i one ended
end_brought i list one None None None = refl
end_brought i list one None None (Some cause) = refl
end_brought i list one None (Some kind) behind = refl
end_brought i list one (Some cause) None None = refl
end_brought i list one (Some cause) None (Some other) = refl
end_brought i list one (Some cause) (Some kind) behind = refl

-- ---- a step that ends an ORB and tells no death found a label
abbrev NoDeath : Brought → Type 0
NoDeath b = (counted b.dead b.dead_behind == 0) ≡ true

lost_dies : (dead : Option FailCause) (phase : Phase) → phase ≡ status_phase dead → (counted dead (dead_in phase) == 0) ≡ true → ⊥
lost_dies None phase e h = untrue (ap (λ p. counted None (dead_in p) == 0) (sym e) ∙ h)
lost_dies (Some cause) phase e h = untrue (ap (λ p. counted (Some cause) (dead_in p) == 0) (sym e) ∙ h)

fails_dies : (kind : StatusKind) (phase : Phase) → fails_in phase ≡ Some kind → (counted (dead_in phase) None == 0) ≡ true → ⊥
fails_dies kind phases.Fetching e h = untrue h
fails_dies kind phases.ReadingTable e h = untrue h
fails_dies kind (phases.ReadingData wanted) e h = untrue h
fails_dies kind phases.Answering e h = untrue h
fails_dies kind phases.WritingStatus e h = untrue h
fails_dies kind phases.ReadingNext e h = untrue h
fails_dies kind phases.Reset e h = let no : None ≡ Some kind = e in cc
fails_dies kind phases.WritingLastStatus e h = let no : None ≡ Some kind = e in cc
fails_dies kind phases.Suspended e h = let no : None ≡ Some kind = e in cc
fails_dies kind phases.Dead e h = let no : None ≡ Some kind = e in cc

module _ (step : AgentStep) (phase : Phase) (at_end : (kind : StatusKind) → step.ended ≡ Some kind → phase ≡ status_phase step.dead) where
  unsent_dies : (kind : StatusKind) (ended : Option StatusKind) → step.ended ≡ ended → (brought_unsent step phase ended).ended ≡ Some kind → NoDeath (brought_unsent step phase ended) → ⊥
  unsent_dies kind (Some other) f e n = lost_dies step.dead phase (at_end other f) n
  unsent_dies kind None f e n = fails_dies kind phase e n

  pub found_alive : (kind : StatusKind) (b : Bool) → (brought b step phase).ended ≡ Some kind → NoDeath (brought b step phase) → (b ≡ true) × (step.ended ≡ Some kind)
  found_alive kind true e n = (refl, e)
  found_alive kind false e n = absurd (unsent_dies kind step.ended refl e n)

-- ---- so its status does, with the bytes of its agent
pub record IsStatusServed (T : Target) (t : Turn) (a : AgentTurn) (end : End) : Type 0 where
  pub initiator : end.initiator ≡ initiator_at T (wire_before t) a.place
  pub list : end.list ≡ list_in (named t.past (initiator_at T (wire_before t) a.place) a.machine.present)
  pub number : end.number ≡ number_in (named t.past (initiator_at T (wire_before t) a.place) a.machine.present)
  pub ended : a.step.ended ≡ Some end.kind
  pub alive : a.step.dead ≡ None
  pub finds : finds_label (wire_after t) 0 (suc (initiator_at T (wire_before t) a.place)) (block_write (fifo_in (login_at T a.place)) a.machine.outgoing) ≡ true

alone : (dead : Option FailCause) → (counted dead None == 0) ≡ true → dead ≡ None
alone None h = refl
alone (Some cause) h = untrue h

pub writes_it : (dead : Option FailCause) → writes_status (status_phase dead) ≡ true
writes_it None = refl
writes_it (Some cause) = refl

pub presents_it : (dead : Option FailCause) → has_present (status_phase dead) ≡ true
presents_it None = refl
presents_it (Some cause) = refl

module _ (start : List Disk) (T : Target) (t : Turn) (a : AgentTurn) (step : AgentStep) (m : Machine) (login : Login) (layer : Layer Purpose) (h : IsTurnOf start T t a step m login layer) (as_end : EndsAs a.step.ended a.step a.machine) where
  abbrev i : ℕ
  i = initiator_at T (wire_before t) a.place

  abbrev fifo : ℕ
  fifo = fifo_in (login_at T a.place)

  abbrev list : Option ℕ
  list = list_taken start (t.start ∷ t.past) a.place

  abbrev one : Option Orb
  one = name_in (h.tickets a.place (orb_of m))

  abbrev found : Bool
  found = found_at a.place layer login step m

  abbrev b : Brought
  b = brought found step m.phase

  abbrev finds : Body → Bool
  finds = finds_label (wire_after t) 0 (suc i)

  -- how it ends an ORB
  pub of_end : (kind : StatusKind) → step.ended ≡ Some kind → IsEnd kind a.step a.machine
  of_end kind e = subst (λ x. EndsAs x a.step a.machine) (ap (λ (s : AgentStep). s.ended) h.step_is ∙ e) as_end

  pub phase_is : (kind : StatusKind) → step.ended ≡ Some kind → m.phase ≡ status_phase step.dead
  phase_is kind e = sym h.alike.phase ∙ ((of_end kind e).phase ∙ ap (λ (s : AgentStep). status_phase s.dead) h.step_is)

  tells : of_kind is_end_note t.rest ≡ brought_notes i list one b
  tells = told_is start T t a step m login layer h

  pub end_is : end_in t.rest ≡ end_of i one b.ended
  end_is = end_by_ends t.rest ∙ (ap end_in tells ∙ end_brought i list one b.dead b.ended b.dead_behind)

  deaths_are : deaths_in t ≡ counted b.dead b.dead_behind
  deaths_are = ap length (deaths_by_ends t.rest ∙ ap (filter is_death_note) tells) ∙ count_by i list one b.dead b.ended b.dead_behind

  -- of an ORB that ends the write
  status_found : (kind : StatusKind) → found ≡ true → step.ended ≡ Some kind → finds (block_write fifo a.machine.outgoing) ≡ true
  status_found kind f e =
      let k = of_end kind e in
      let same : a.machine.outgoing ≡ m.outgoing = h.alike.status (ap writes_status (phase_is kind e) ∙ writes_it step.dead) in
      let request : step.ask ≡ Write 0 (length a.machine.outgoing) = ap (λ (s : AgentStep). s.ask) (sym h.step_is) ∙ k.request in
      let asked : body_of step.ask m step.ended fifo ≡ Some (block_write fifo m.outgoing) =
      ap (λ x. body_of x m step.ended fifo) request ∙ ap (λ x. body_of (Write 0 (length a.machine.outgoing)) m x fifo) e in
      ap (λ bytes. finds (block_write fifo bytes)) same ∙ (ap (found_by finds) (sym asked) ∙ (law_found start T t a step m login layer h ∙ f))

  by_end : (end : End) (ended : Option StatusKind) → b.ended ≡ ended → end_of i one ended ≡ Some end → (deaths_in t == 0) ≡ true → IsStatusServed T t a end
  by_end end None e f n = none_is end f
  by_end end (Some kind) e f n =
      let same : record { initiator = i; list = list_in one; number = number_in one; kind = kind } ≡ end = cc in
      let none : NoDeath b = ap (λ x. x == 0) (sym deaths_are) ∙ n in
      let alive = found_alive step m.phase phase_is kind found e none in
      let lives : step.dead ≡ None = alone step.dead (ap (λ x. counted (brought x step m.phase).dead (brought x step m.phase).dead_behind == 0) (sym alive.0) ∙ none) in
      let name = named_alike start T t a step m login layer h (ap has_present (phase_is kind alive.1) ∙ presents_it step.dead) in
      record {
        initiator = ap (λ (x : End). x.initiator) (sym same);
        list = ap (λ (x : End). x.list) (sym same) ∙ ap list_in (sym name);
        number = ap (λ (x : End). x.number) (sym same) ∙ ap number_in (sym name);
        ended = ap (λ (s : AgentStep). s.ended) h.step_is ∙ (alive.1 ∙ ap (λ (x : End). Some x.kind) same);
        alive = ap (λ (s : AgentStep). s.dead) h.step_is ∙ lives;
        finds = status_found kind alive.0 alive.1;
      }

  pub status_served : (end : End) → end_in t.rest ≡ Some end → (deaths_in t == 0) ≡ true → IsStatusServed T t a end
  status_served end e n = by_end end b.ended refl (sym end_is ∙ e) n
