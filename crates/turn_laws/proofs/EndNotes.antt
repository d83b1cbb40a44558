-- The deaths and ends among the notes of a call of the target: those of the sides that tell them, by who has the places. They are the law's where the sides are those that a step brings.
use Rattle.std.proofs.Common.{arith, ◌≡◌, ◌∙◌, refl, sym, ap, ℕ, ◌≤◌, false, List, [], ◌∷◌, ◌++◌, Option, Some, None}
use Rattle.std.proofs.lemmas.List.Elements.{filter-append}
use Rattle.command_agent.specs.Machine.{Machine}
use Rattle.orb_layout.specs.declared.ask.FailCause.{FailCause}
use Rattle.orb_layout.specs.declared.status.StatusKind.{StatusKind}
use Rattle.orb_list.specs.Tickets.{TicketParts}
use Rattle.sbp_bus.specs.Telling as bus
use Rattle.sbp_bus.specs.declared.places.Holder.{Holder}
use Rattle.sbp_journal.specs.Outgoings.{OutboxState}
use Rattle.sbp_journal.specs.declared.note.Note.{Note}
use Rattle.sbp_journal.specs.declared.note.Note.TheVariants as notes
use Rattle.sbp_journal.specs.declared.side.Side.{Side}
use Rattle.sbp_journal.specs.declared.side.Side.TheVariants as sides
use Rattle.sbp_laws.specs.Agents.{dead_note, ended_note}
use Rattle.sbp_laws.specs.Lists.{list_in}
use Rattle.sbp_laws.specs.NoteKinds.{is_end_note, of_kind}
use Rattle.sbp_target.specs.Telling.{orb_of}
use Rattle.sbp_world.specs.Hosts.Handing.{AreOthers, IsOther}
use Rattle.sbp_world.specs.Hosts.Rows.{name_in}
use Rattle.sbp_world.specs.Telling.{holder, ticket_at, told}
use Rattle.sbp_world.specs.Worlds.{WorldState}
use Rattle.sbp_world.proofs.Formed.{AreOwn, IsNoRun}
use Rattle.sbp_world.proofs.Lists.DueRuns.{list_same, number_same}
use Rattle.turn_laws.proofs.EndTries.{Brought, brought_notes, brought_sides}
use Rattle.turn_laws.proofs.FollowEnds.{dead_side, ended_side, ends_in}
use Rattle.turn_laws.proofs.FollowSides.{AreBeside, IsBeside}
use Rattle.turn_laws.proofs.Handed.{handed, note_of, notes_told}
use Rattle.turn_laws.proofs.KindNotes.{IsToldKind, join_same, kind_handed, own_handed}
use Rattle.turn_laws.proofs.OrderHanded.{InRanks, side_rank}
use Rattle.turn_laws.proofs.OrderRanks.{rises_within}

-- ---- no end, where no rank is that of one
abbrev pub IsNoEnd : Side → Type 0
IsNoEnd (sides.Ended place orb status) = ⊥
IsNoEnd (sides.Dead place cause) = ⊥
IsNoEnd side = Unit {0}

abbrev pub NoEnds : List Side → Type 0
NoEnds [] = Unit {0}
NoEnds (side ∷ later) = IsNoEnd side × NoEnds later

too_high : (later : List Side) → InRanks 6 later 4 → ⊥
too_high later h = let f : 6 ≤ 4 = rises_within side_rank later 6 4 h in omega (arith, f)

one_low : (side : Side) (later : List Side) → InRanks (side_rank side) later 4 → IsNoEnd side
one_low (sides.Ended place orb status) later h = too_high later h
one_low (sides.Dead place cause) later h = too_high later h
one_low side later h = tt

pub low_ranks : (later : List Side) (r : ℕ) → InRanks r later 4 → NoEnds later
low_ranks [] r h = tt
low_ranks (side ∷ later) r h = (one_low side later h.1, low_ranks later (side_rank side) h.1)

one_none : (side : Side) (w : WorldState) → IsOther side → IsNoEnd side → of_kind is_end_note (note_of side w) ≡ []
one_none (sides.Own note) w o n = absurd o
one_none (sides.Ended place orb status) w o n = absurd n
one_none (sides.Dead place cause) w o n = absurd n
one_none side w o n = refl

none_noted : (weight : ℕ) (later : List Side) (w : WorldState) → AreOthers later → NoEnds later → of_kind is_end_note (notes_told weight later w) ≡ []
none_noted weight [] w o n = refl
none_noted weight (side ∷ later) w o n =
    let v = told weight side w in
    filter-append is_end_note (note_of side w) (notes_told weight later v)
    ∙ (ap (λ ns. ns ++ of_kind is_end_note (notes_told weight later v)) (one_none side w o.0 n.0) ∙ none_noted weight later v o.1 n.1)

pub is_told : IsToldKind is_end_note
is_told = record { no_packet = λ serial generation from to bytes. refl }

pub none_handed : (outbox : OutboxState) (w : WorldState) → AreOthers outbox.sides → NoEnds outbox.sides → of_kind is_end_note (handed 0 0 outbox w) ≡ []
none_handed outbox w o n = kind_handed is_end_note is_told 0 0 outbox w ∙ none_noted 0 outbox.sides w o n

-- an initiator tells none
no_own : (note : Note) → IsNoRun note → is_end_note note ≡ false
no_own (notes.Ended i list number status) n = absurd n
no_own (notes.Dead i list cause) n = absurd n
no_own note n = refl

pub own_ends : (node weight : ℕ) (outbox : OutboxState) (w : WorldState) → AreOwn outbox.sides → of_kind is_end_note (handed node weight outbox w) ≡ []
own_ends node weight outbox w o = own_handed is_end_note is_told no_own node weight outbox w o

-- ---- ends, by who has the places
module _ (H : ℕ → Holder) (K : ℕ → ℕ → Option TicketParts) where
  abbrev pub end_note : Side → List Note
  end_note (sides.Ended place orb status) = bus.ended_note (H place) (K place orb) status ∷ []
  end_note (sides.Dead place cause) = bus.dead_note (H place) cause ∷ []
  end_note side = []

  abbrev pub ends_noted : List Side → List Note
  ends_noted [] = []
  ends_noted (side ∷ later) = end_note side ++ ends_noted later

  ends_both : (a b : List Side) → ends_noted (a ++ b) ≡ ends_noted a ++ ends_noted b
  ends_both [] b = refl
  ends_both (side ∷ a) b = ap (λ ns. end_note side ++ ns) (ends_both a b) ∙ join_same (end_note side) (ends_noted a) (ends_noted b)

  -- as the law has them
  module _ (q : ℕ) (m : Machine) where
    dead_one : (dead : Option FailCause) → ends_noted (dead_side q dead) ≡ dead_note (H q).initiator (H q).list dead
    dead_one None = refl
    dead_one (Some cause) = refl

    ended_one : (ended : Option StatusKind) → ends_noted (ended_side q m ended) ≡ ended_note (H q).initiator (name_in (K q (orb_of m))) ended
    ended_one None = refl
    ended_one (Some kind) =
        let ticket = K q (orb_of m) in
        ap (λ l. notes.Ended (H q).initiator l (bus.orb_in ticket) kind ∷ []) (sym (list_same ticket)) ∙ ap (λ n. notes.Ended (H q).initiator (list_in (name_in ticket)) n kind ∷ []) (sym (number_same ticket))

    pub brought_noted : (b : Brought) → ends_noted (brought_sides q m b) ≡ brought_notes (H q).initiator (H q).list (name_in (K q (orb_of m))) b
    brought_noted b =
        let i = (H q).initiator in
        ends_both (dead_side q b.dead) (ended_side q m b.ended ++ dead_side q b.dead_behind)
        ∙ (ap (λ ns. ns ++ ends_noted (ended_side q m b.ended ++ dead_side q b.dead_behind)) (dead_one b.dead)
        ∙ ap (λ ns. dead_note i (H q).list b.dead ++ ns)
        (ends_both (ended_side q m b.ended) (dead_side q b.dead_behind)
        ∙ (ap (λ ns. ns ++ ends_noted (dead_side q b.dead_behind)) (ended_one b.ended)
        ∙ ap (λ ns. ended_note i (name_in (K q (orb_of m))) b.ended ++ ns) (dead_one b.dead_behind))))

-- ---- among the notes of what follows a step of an agent
beside_holder : (weight : ℕ) (side : Side) (w : WorldState) → IsBeside side → (p : ℕ) → holder (told weight side w) p ≡ holder w p
unfolding told
beside_holder weight (sides.Ran place orb cdb payload outcome) w b p = refl
beside_holder weight (sides.Ended place orb status) w b p = refl
beside_holder weight (sides.Dead place cause) w b p = refl
beside_holder weight (sides.Unsolicited place) w b p = refl
beside_holder weight (sides.Unsent place) w b p = refl
beside_holder weight side w b p = absurd b

beside_ticket : (weight : ℕ) (side : Side) (w : WorldState) → IsBeside side → (p orb : ℕ) → ticket_at (told weight side w) p orb ≡ ticket_at w p orb
unfolding told
beside_ticket weight (sides.Ran place orb cdb payload outcome) w b p o = refl
beside_ticket weight (sides.Ended place orb status) w b p o = refl
beside_ticket weight (sides.Dead place cause) w b p o = refl
beside_ticket weight (sides.Unsolicited place) w b p o = refl
beside_ticket weight (sides.Unsent place) w b p o = refl
beside_ticket weight side w b p o = absurd b

module _ (H : ℕ → Holder) (K : ℕ → ℕ → Option TicketParts) (weight : ℕ) where
  abbrev pub IsHere : WorldState → Type 0
  IsHere w = ((p : ℕ) → holder w p ≡ H p) × ((p orb : ℕ) → ticket_at w p orb ≡ K p orb)

  still : (side : Side) (w : WorldState) → IsBeside side → IsHere w → IsHere (told weight side w)
  still side w b h = (λ p. beside_holder weight side w b p ∙ h.0 p, λ p orb. beside_ticket weight side w b p orb ∙ h.1 p orb)

  beside_noted : (later : List Side) (w : WorldState) → IsHere w → AreBeside later → of_kind is_end_note (notes_told weight later w) ≡ ends_noted H K (ends_in later)
  beside_noted [] w h b = refl
  beside_noted (sides.Ran place orb cdb payload outcome ∷ later) w h b = let s = sides.Ran place orb cdb payload outcome in beside_noted later (told weight s w) (still s w b.0 h) b.1
  beside_noted (sides.Unsolicited place ∷ later) w h b = let s = sides.Unsolicited place in beside_noted later (told weight s w) (still s w b.0 h) b.1
  beside_noted (sides.Unsent place ∷ later) w h b = let s = sides.Unsent place in beside_noted later (told weight s w) (still s w b.0 h) b.1
  beside_noted (sides.Ended place orb status ∷ later) w h b =
      let s = sides.Ended place orb status in
      ap (λ (x : Holder). bus.ended_note x (ticket_at w place orb) status ∷ of_kind is_end_note (notes_told weight later (told weight s w))) (h.0 place)
      ∙ (ap (λ t. bus.ended_note (H place) t status ∷ of_kind is_end_note (notes_told weight later (told weight s w))) (h.1 place orb)
      ∙ ap (λ ns. bus.ended_note (H place) (K place orb) status ∷ ns) (beside_noted later (told weight s w) (still s w b.0 h) b.1))
  beside_noted (sides.Dead place cause ∷ later) w h b =
      let s = sides.Dead place cause in
      ap (λ (x : Holder). bus.dead_note x cause ∷ of_kind is_end_note (notes_told weight later (told weight s w))) (h.0 place)
      ∙ ap (λ ns. bus.dead_note (H place) cause ∷ ns) (beside_noted later (told weight s w) (still s w b.0 h) b.1)
  beside_noted (side ∷ later) w h b = absurd b.0

  pub beside_handed : (outbox : OutboxState) (w : WorldState) → IsHere w → AreBeside outbox.sides → of_kind is_end_note (handed 0 weight outbox w) ≡ ends_noted H K (ends_in outbox.sides)
  beside_handed outbox w h b = kind_handed is_end_note is_told 0 weight outbox w ∙ beside_noted outbox.sides w h b

  -- behind an opened list, by who has the places then
  opened_noted : (place orb : ℕ) (more : List Side) (w : WorldState) → IsHere (told weight (sides.Opened place orb) w) → AreBeside more → of_kind is_end_note (notes_told weight (sides.Opened place orb ∷ more) w) ≡ ends_noted H K (ends_in more)
  opened_noted place orb more w h b = beside_noted more (told weight (sides.Opened place orb) w) h b

  pub opened_handed : (place orb : ℕ) (more : List Side) (outbox : OutboxState) (w : WorldState) → outbox.sides ≡ sides.Opened place orb ∷ more → IsHere (told weight (sides.Opened place orb) w) → AreBeside more → of_kind is_end_note (handed 0 weight outbox w) ≡ ends_noted H K (ends_in more)
  opened_handed place orb more outbox w e h b =
      kind_handed is_end_note is_told 0 weight outbox w ∙ (ap (λ told_sides. of_kind is_end_note (notes_told weight told_sides w)) e ∙ opened_noted place orb more w h b)
