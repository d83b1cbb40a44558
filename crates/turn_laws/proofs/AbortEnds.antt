-- Where an ORB ends as aborted in a turn it was marked before: as the turn's place and the name of its present ORB say it.
use Rattle.std.proofs.Common.{◌≡◌, ◌∙◌, refl, sym, ap, subst, ℕ, suc, Bool, true, false, List, [], ◌∷◌, ◌++◌, Option, Some, None}
use Rattle.std.specs.List.{list_any}
use Rattle.label_table.specs.Bodies.{Body}
use Rattle.orb_layout.specs.declared.ask.FailCause.{FailCause}
use Rattle.orb_layout.specs.declared.status.StatusKind.{StatusKind}
use Rattle.orb_layout.specs.declared.status.StatusKind.TheVariants as kinds
use Rattle.rbc_disk.specs.Disk.{Disk}
use Rattle.sbp_journal.specs.Run.{Moment, said}
use Rattle.sbp_journal.specs.declared.note.Note.{Note}
use Rattle.sbp_journal.specs.declared.note.Note.TheVariants as notes
use Rattle.sbp_laws.specs.Aborts.{AbortsStand, aborted_by, is_aborted_note}
use Rattle.sbp_laws.specs.Agents.{AgentTurn, Event as AgentEvent, agent_event, agent_notes_for, agent_turn, body_of, dead_note, ended_note, fifo_in, finds_first, list_taken, nothing, replies, target_before, wire_after, wire_before, writes}
use Rattle.sbp_laws.specs.CauseLaw.{is_marked}
use Rattle.sbp_laws.specs.Deaths.{ends_by}
use Rattle.sbp_laws.specs.Lists.{Orb, list_in, named, number_in, orb}
use Rattle.sbp_laws.specs.NoteKinds.{is_end_note, of_kind}
use Rattle.sbp_laws.specs.Packets.{finds_label}
use Rattle.sbp_laws.specs.Targets.{Reply, Target, initiator_at, login_at}
use Rattle.sbp_laws.specs.Turns.{Turn}
use Rattle.sbp_world.proofs.Common.{untrue}
use Rattle.turn_laws.specs.Aborted.{AbortedIf}
use Rattle.turn_laws.specs.Ends.{EndsWhereDue}
use Rattle.turn_laws.proofs.AbortSince.{marked_later}
use Rattle.turn_laws.proofs.EndTries.{brings, brought, brought_notes, found_by, notes_tried}

-- ---- the notes of a turn, each as it stands behind those before it
abbrev pub AreMarkedEnds : List Disk → (ℕ → Bool) → List Moment → List Note → Type 0
AreMarkedEnds start wild past [] = Unit {0}
AreMarkedEnds start wild past (note ∷ rest) = AbortedIf start wild (said note) past × AreMarkedEnds start wild (said note ∷ past) rest

module _ (start : List Disk) (wild : ℕ → Bool) (now : List Moment) where
  abbrev AllMarked : List Note → Type 0
  AllMarked [] = Unit {0}
  AllMarked (note ∷ rest) = AbortedIf start wild (said note) now × AllMarked rest

  one_later : (note : Note) (back : List Moment) → AbortedIf start wild (said note) now → AbortedIf start wild (said note) (back ++ now)
  one_later (notes.Ended i (Some n) (Some k) kinds.Aborted) back e = λ own. marked_later start i n k back now (e own)
  one_later note back e = tt

  all_later : (rest : List Note) (back : List Moment) → AllMarked rest → AreMarkedEnds start wild (back ++ now) rest
  all_later [] back e = tt
  all_later (note ∷ rest) back e = (one_later note back e.0, all_later rest (said note ∷ back) e.1)

  other_end : (i : ℕ) (list number : Option ℕ) (kind : StatusKind) → is_aborted_note (notes.Ended i list number kind) ≡ false → AbortedIf start wild (said (notes.Ended i list number kind)) now
  other_end i None number kind e = tt
  other_end i (Some n) None kind e = tt
  other_end i (Some n) (Some k) kinds.Aborted e = untrue (sym e)
  other_end i (Some n) (Some k) kind e = tt

  -- of the ends alone
  none_such : (rest : List Note) → list_any is_aborted_note rest ≡ false → AllMarked rest
  none_such [] e = tt
  none_such (notes.Ended i list number kinds.Aborted ∷ rest) e = untrue (sym e)
  none_such (notes.Ended i list number kind ∷ rest) e = (other_end i list number kind refl, none_such rest e)
  none_such (note ∷ rest) e = (tt, none_such rest e)

  of_ends : (rest : List Note) → AllMarked (of_kind is_end_note rest) → AllMarked rest
  of_ends [] e = tt
  of_ends (notes.Ended i list number kind ∷ rest) e = (e.0, of_ends rest e.1)
  of_ends (notes.Dead i list cause ∷ rest) e = (tt, of_ends rest e.1)
  of_ends (note ∷ rest) e = (tt, of_ends rest e)

  module _ (i : ℕ) where
    abbrev pub IsNamed : Option Orb → Type 0
    IsNamed one = wild i ≡ false → (n k : ℕ) → one ≡ Some (orb n k) → is_marked start now i n k ≡ true

    end_so : (one : Option Orb) (kind : StatusKind) → IsNamed one → AbortedIf start wild (said (notes.Ended i (list_in one) (number_in one) kind)) now
    end_so (Some one) kinds.Aborted h = λ own. h own one.list one.number refl
    end_so None kind h = tt
    end_so (Some one) kind h = tt

    last_so : (list : Option ℕ) (dead : Option FailCause) → AllMarked (dead_note i list dead)
    last_so list None = tt
    last_so list (Some cause) = (tt, tt)

    ended_so : (list : Option ℕ) (one : Option Orb) (ended : Option StatusKind) (behind : Option FailCause) → IsNamed one → AllMarked (ended_note i one ended ++ dead_note i list behind)
    ended_so list one None behind h = last_so list behind
    ended_so list one (Some kind) behind h = (end_so one kind h, last_so list behind)

    brought_so : (list : Option ℕ) (one : Option Orb) (dead : Option FailCause) (ended : Option StatusKind) (behind : Option FailCause) → IsNamed one → AllMarked (brought_notes i list one (brings dead ended behind))
    brought_so list one None ended behind h = ended_so list one ended behind h
    brought_so list one (Some cause) ended behind h = (tt, ended_so list one ended behind h)

module _ (start : List Disk) (wild : ℕ → Bool) (t : Turn) where
  abbrev B : Target
  B = target_before start t

  abbrev now : List Moment
  now = t.start ∷ t.past

  agent_so : (a : AgentTurn) → (let i = initiator_at B (wire_before t) a.place in IsNamed start wild now i (named t.past i a.machine.present)) → AllMarked start wild now (agent_notes_for start B t a)
  agent_so a h =
      let i = initiator_at B (wire_before t) a.place in
      let list = list_taken start (t.start ∷ t.past) a.place in
      let one = named t.past i a.machine.present in
      let fifo = fifo_in (login_at B a.place) in
      let body : Option Body = body_of a.step.ask a.machine a.step.ended fifo in
      let b = brought (found_by (finds_first B t a) body) a.step a.machine.phase in
      subst (AllMarked start wild now) (sym (notes_tried (finds_first B t a) (finds_label (wire_after t) 0 (suc i)) fifo i list one a.step a.machine body)) (brought_so start wild now i list one b.dead b.ended b.dead_behind h)

  -- what is to be known of the turn: the present ORB of a reply that ends as aborted is marked
  abbrev pub NamesMarked : Type 0
  NamesMarked =
      (reply : Reply) → agent_event start t ≡ replies reply → aborted_by start t (replies reply) ≡ true → (a : AgentTurn) → agent_turn (replies reply) B (wire_before t) t.rest ≡ Some a
      → (let i = initiator_at B (wire_before t) a.place in IsNamed start wild now i (named t.past i a.machine.present))

  module _ (ends : EndsWhereDue start t) (stands : AbortsStand start t) (names : NamesMarked) where
    by_event : (event : AgentEvent) → agent_event start t ≡ event → aborted_by start t event ≡ true → AllMarked start wild now t.rest
    by_event nothing is e = untrue e
    by_event (writes entry place given) is e = untrue e
    by_event (replies reply) is e =
        let due = ap (λ (x : AgentEvent). ends_by start B t (agent_turn x B (wire_before t) t.rest)) is in
        of_ends start wild now t.rest (subst (AllMarked start wild now) (sym (ends ∙ due)) (turned (agent_turn (replies reply) B (wire_before t) t.rest) refl))
      where
        turned : (a : Option AgentTurn) → agent_turn (replies reply) B (wire_before t) t.rest ≡ a → AllMarked start wild now (ends_by start B t a)
        turned None f = tt
        turned (Some a) f = agent_so a (names reply is e a f)

    pub ends_marked : AreMarkedEnds start wild now t.rest
    ends_marked = all_later start wild now t.rest [] (by (aborted_by start t (agent_event start t)) refl)
      where
        by : (b : Bool) → aborted_by start t (agent_event start t) ≡ b → AllMarked start wild now t.rest
        by true e = by_event (agent_event start t) refl e
        by false e = none_such start wild now t.rest (stands ∙ e)
