-- The deaths and ends that a step of an agent brings about, by whether its first request finds a label: those that the target tells are those that the laws try, and nothing counts for them but the step
-- and the phase behind it.
use Rattle.std.proofs.Common.{◌≡◌, ◌∙◌, refl, sym, ap, ℕ, Bool, true, false, cond, List, [], ◌++◌, append-nil, append_assoc, Option, Some, None}
use Rattle.label_table.specs.Bodies.{Body}
use Rattle.orb_layout.specs.declared.ask.FailCause.{FailCause}
use Rattle.orb_layout.specs.declared.ask.FailCause.TheVariants as causes
use Rattle.orb_layout.specs.declared.status.StatusKind.{StatusKind}
use Rattle.orb_layout.specs.declared.status.StatusKind.TheVariants as kinds
use Rattle.command_agent.specs.Machine.{Machine}
use Rattle.command_agent.specs.Steps.{lost_step, main_lost}
use Rattle.command_agent.specs.declared.phase.Phase.{Phase}
use Rattle.command_agent.specs.declared.phase.Phase.TheVariants as phases
use Rattle.command_agent.specs.declared.step.AgentStep.{AgentStep}
use Rattle.sbp_journal.specs.declared.note.Note.{Note}
use Rattle.sbp_journal.specs.declared.side.Side.{Side}
use Rattle.sbp_laws.specs.Agents.{Outcomes, body_of, dead_note, end_notes, ended_note, last_try, tried, unsent}
use Rattle.sbp_laws.specs.Lists.{Orb}
use Rattle.turn_laws.proofs.FollowEnds.{dead_side, ended_side, no_label, step_ends, told_by}

-- whether a request finds a label: where there is none, nothing is missed
abbrev pub found_by : (Body → Bool) → Option Body → Bool
found_by finds None = true
found_by finds (Some body) = finds body

-- a death, the end that it brings, and a death behind an end
pub record Brought : Type 0 where
  pub dead : Option FailCause
  pub ended : Option StatusKind
  pub dead_behind : Option FailCause

abbrev pub brings : Option FailCause → Option StatusKind → Option FailCause → Brought
brings dead ended behind = record { dead = dead; ended = ended; dead_behind = behind }

-- ---- what the loss of the main transaction for want of a label brings, by the phase
abbrev pub dead_in : Phase → Option FailCause
dead_in phases.Reset = None
dead_in phases.Suspended = None
dead_in phases.Dead = None
dead_in phases.WritingLastStatus = None
dead_in phase = Some causes.Label

abbrev pub fails_in : Phase → Option StatusKind
fails_in phases.Fetching = Some kinds.Failed
fails_in phases.ReadingTable = Some kinds.Failed
fails_in (phases.ReadingData wanted) = Some kinds.Failed
fails_in phases.Answering = Some kinds.Failed
fails_in phase = None

loss_dead : (phase : Phase) (m : Machine) → (main_lost phase m causes.Label).0.dead ≡ dead_in phase
loss_dead phases.Reset m = refl
loss_dead phases.Fetching m = refl
loss_dead phases.ReadingTable m = refl
loss_dead (phases.ReadingData wanted) m = refl
loss_dead phases.Answering m = refl
loss_dead phases.WritingStatus m = refl
loss_dead phases.ReadingNext m = refl
loss_dead phases.WritingLastStatus m = refl
loss_dead phases.Suspended m = refl
loss_dead phases.Dead m = refl

loss_fails : (phase : Phase) (m : Machine) → (main_lost phase m causes.Label).0.ended ≡ fails_in phase
loss_fails phases.Reset m = refl
loss_fails phases.Fetching m = refl
loss_fails phases.ReadingTable m = refl
loss_fails (phases.ReadingData wanted) m = refl
loss_fails phases.Answering m = refl
loss_fails phases.WritingStatus m = refl
loss_fails phases.ReadingNext m = refl
loss_fails phases.WritingLastStatus m = refl
loss_fails phases.Suspended m = refl
loss_fails phases.Dead m = refl

dies_by : (m : Machine) → (no_label m).0.dead ≡ dead_in m.phase
unfolding lost_step
dies_by m = loss_dead m.phase m

pub fails_by : (m : Machine) → (no_label m).0.ended ≡ fails_in m.phase
unfolding lost_step
fails_by m = loss_fails m.phase m

-- ---- what a step brings
abbrev pub brought_unsent : AgentStep → Phase → Option StatusKind → Brought
brought_unsent step phase (Some kind) = brings step.dead (Some kind) (dead_in phase)
brought_unsent step phase None = brings (dead_in phase) (fails_in phase) None

abbrev pub brought : Bool → AgentStep → Phase → Brought
brought true step phase = brings step.dead step.ended None
brought false step phase = brought_unsent step phase step.ended

-- as the laws try it
abbrev pub brought_in : Outcomes → Brought
brought_in outcomes = brings outcomes.dead outcomes.ended outcomes.dead_behind

abbrev pub brought_notes : ℕ → Option ℕ → Option Orb → Brought → List Note
brought_notes i list one b = dead_note i list b.dead ++ (ended_note i one b.ended ++ dead_note i list b.dead_behind)

module _ (finds_first finds : Body → Bool) (fifo : ℕ) where
  last_brings : (step : AgentStep) (m : Machine) (body : Option Body) → brought_in (last_try finds fifo (step, m) body) ≡ brings step.dead step.ended None
  last_brings step m None = refl
  last_brings step m (Some body) = by (finds body)
    where
      by : (b : Bool) → brought_in (cond b (record { dead = step.dead; ended = step.ended; dead_behind = None; sent = Some body; machine = m }) (record { dead = step.dead; ended = step.ended; dead_behind = None; sent = None; machine = (no_label m).1 })) ≡ brings step.dead step.ended None
      by true = refl
      by false = refl

  last_by : (s : AgentStep × Machine) (body : Option Body) → brought_in (last_try finds fifo s body) ≡ brings s.0.dead s.0.ended None
  last_by (step, m) body = last_brings step m body

  unsent_brings : (step : AgentStep) (m : Machine) (ended : Option StatusKind) → brought_in (unsent finds fifo step m ended) ≡ brought_unsent step m.phase ended
  unsent_brings step m (Some kind) = ap (λ d. brings step.dead (Some kind) d) (dies_by m)
  unsent_brings step m None =
      let l = no_label m in
      last_by l (body_of l.0.ask l.1 l.0.ended fifo) ∙ (ap (λ d. brings d l.0.ended None) (dies_by m) ∙ ap (λ e. brings (dead_in m.phase) e None) (fails_by m))

  pub tried_brings : (step : AgentStep) (m : Machine) (body : Option Body) → brought_in (tried finds_first finds fifo step m body) ≡ brought (found_by finds_first body) step m.phase
  tried_brings step m None = refl
  tried_brings step m (Some body) = by (finds_first body)
    where
      by : (b : Bool) → brought_in (cond b (record { dead = step.dead; ended = step.ended; dead_behind = None; sent = Some body; machine = m }) (unsent finds fifo step m step.ended)) ≡ brought b step m.phase
      by true = refl
      by false = unsent_brings step m step.ended

  pub notes_tried : (i : ℕ) (list : Option ℕ) (one : Option Orb) (step : AgentStep) (m : Machine) (body : Option Body) → end_notes i list one (tried finds_first finds fifo step m body) ≡ brought_notes i list one (brought (found_by finds_first body) step m.phase)
  notes_tried i list one step m body = ap (λ b. brought_notes i list one b) (tried_brings step m body)

-- ---- and as the target tells it
-- A step that ends an ORB writes its status, the last one where the agent died, which ends nothing more.
abbrev pub IsAlive : Option FailCause → Type 0
IsAlive None = Unit {0}
IsAlive (Some cause) = ⊥

abbrev pub IsShaped : Option StatusKind → Option FailCause → Phase → Type 0
IsShaped (Some kind) dead phases.WritingStatus = IsAlive dead
IsShaped (Some kind) dead phases.WritingLastStatus = Unit {0}
IsShaped (Some kind) dead phase = ⊥
IsShaped None dead phase = Unit {0}

pub ends_none : (kind : StatusKind) (dead : Option FailCause) (phase : Phase) → IsShaped (Some kind) dead phase → fails_in phase ≡ None
ends_none kind dead phases.WritingStatus h = refl
ends_none kind dead phases.WritingLastStatus h = refl
ends_none kind dead phases.Reset h = absurd h
ends_none kind dead phases.Fetching h = absurd h
ends_none kind dead phases.ReadingTable h = absurd h
ends_none kind dead (phases.ReadingData wanted) h = absurd h
ends_none kind dead phases.Answering h = absurd h
ends_none kind dead phases.ReadingNext h = absurd h
ends_none kind dead phases.Suspended h = absurd h
ends_none kind dead phases.Dead h = absurd h

module _ (q : ℕ) (m : Machine) where
  abbrev pub brought_sides : Brought → List Side
  brought_sides b = dead_side q b.dead ++ (ended_side q m b.ended ++ dead_side q b.dead_behind)

  plain : (dead : Option FailCause) (ended : Option StatusKind) → dead_side q dead ++ ended_side q m ended ≡ brought_sides (brings dead ended None)
  plain dead ended = ap (λ ns. dead_side q dead ++ ns) (sym (append-nil (ended_side q m ended)))

  -- it is the present ORB that fails
  orb_by : (phase : Phase) → m.phase ≡ phase → ended_side q (main_lost phase m causes.Label).1 (fails_in phase) ≡ ended_side q m (fails_in phase)
  orb_by phases.Reset e = refl
  orb_by phases.Fetching e = ap (λ p. ended_side q (record m { phase = p }) (Some kinds.Failed)) (sym e)
  orb_by phases.ReadingTable e = ap (λ p. ended_side q (record m { phase = p }) (Some kinds.Failed)) (sym e)
  orb_by (phases.ReadingData wanted) e = ap (λ p. ended_side q (record m { phase = p }) (Some kinds.Failed)) (sym e)
  orb_by phases.Answering e = ap (λ p. ended_side q (record m { phase = p }) (Some kinds.Failed)) (sym e)
  orb_by phases.WritingStatus e = refl
  orb_by phases.ReadingNext e = refl
  orb_by phases.WritingLastStatus e = refl
  orb_by phases.Suspended e = refl
  orb_by phases.Dead e = refl

  orb_same : ended_side q (no_label m).1 (fails_in m.phase) ≡ ended_side q m (fails_in m.phase)
  unfolding lost_step
  orb_same = orb_by m.phase refl

  lost_ends : step_ends q (no_label m).1 (no_label m).0 ≡ dead_side q (dead_in m.phase) ++ ended_side q m (fails_in m.phase)
  lost_ends =
      let l = no_label m in
      ap (λ d. dead_side q d ++ ended_side q l.1 l.0.ended) (dies_by m)
      ∙ (ap (λ e. dead_side q (dead_in m.phase) ++ ended_side q l.1 e) (fails_by m) ∙ ap (λ ns. dead_side q (dead_in m.phase) ++ ns) orb_same)

  unsent_told : (step : AgentStep) (ended : Option StatusKind) → IsShaped ended step.dead m.phase → (ended ≡ None → step.dead ≡ None) → (dead_side q step.dead ++ ended_side q m ended) ++ step_ends q (no_label m).1 (no_label m).0 ≡ brought_sides (brought_unsent step m.phase ended)
  unsent_told step (Some kind) f g =
      ap (λ ns. (dead_side q step.dead ++ ended_side q m (Some kind)) ++ ns) (lost_ends ∙ (ap (λ x. dead_side q (dead_in m.phase) ++ ended_side q m x) (ends_none kind step.dead m.phase f) ∙ append-nil (dead_side q (dead_in m.phase))))
      ∙ append_assoc (dead_side q step.dead) (ended_side q m (Some kind)) (dead_side q (dead_in m.phase))
  unsent_told step None f g =
      ap (λ d. (dead_side q d ++ []) ++ step_ends q (no_label m).1 (no_label m).0) (g refl) ∙ (lost_ends ∙ plain (dead_in m.phase) (fails_in m.phase))

  -- where a request finds no label there was one
  pub told_brings : (b : Bool) (step : AgentStep) → IsShaped step.ended step.dead m.phase → (b ≡ false → step.ended ≡ None → step.dead ≡ None) → told_by b q step m ≡ brought_sides (brought b step m.phase)
  told_brings true step f g = plain step.dead step.ended
  told_brings false step f g = unsent_told step step.ended f (g refl)
