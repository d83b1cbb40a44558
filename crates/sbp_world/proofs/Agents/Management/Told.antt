-- What a node tells changes the terms as its notes do, and what leaves it changes nothing of the management where that asks for nothing.
use Rattle.sbp_world.proofs.Words.Std.{◌≡◌, ◌∙◌, refl, ap, ℕ, ◌+◌, ◌==◌, Bool, true, false, cond, List, [], ◌∷◌, ◌++◌, map, Option, Some, None, position}
use Rattle.sbp_world.proofs.Words.Wire.{LabelParts, Moment, said, Part, request, response, part_of, Note, Outgoing, Side, node_of, function_word, login_if}
use Rattle.sbp_world.proofs.Words.Target.{Disk}
use Rattle.sbp_world.proofs.Words.Initiator.{Nothing}
use Rattle.sbp_world.proofs.Words.Laws.{access_in_bytes, Target, is_write_access, known_at, sent_as, sent_for, taken_on, target_at, wants, wants_it}
use Rattle.sbp_world.proofs.Words.World.{asked, posted, sent, sent_all, sent_to, holder, initiator_of, told, told_all, WorldState, with_note, Office, by_note, by_side, by_sides, office_of}
use Rattle.sbp_journal.specs.Transactions.{no_packet}
use Rattle.sbp_journal.specs.declared.note.Note.TheVariants as notes
use Rattle.sbp_journal.specs.declared.side.Side.TheVariants as sides
use Rattle.sbp_world.proofs.Agents.Management.Offices.{IsBehind, note_changes, taken_keeps}
use Rattle.sbp_world.proofs.Agents.Management.Sides.{AllBehind, TellsBehind}

-- the terms of the target, behind the notes of a world's present line
abbrev pub term_in : List Disk → List Moment → WorldState → Target
term_in start past w = target_at start (map said w.fresh ++ past)

abbrev pub office_in : List Disk → List Moment → WorldState → Office
office_in start past w = office_of (term_in start past w)

module _ (start : List Disk) (past : List Moment) where
  pub one_note : (note : Note) (w : WorldState) → IsBehind note → office_in start past (with_note note w) ≡ by_note note (office_in start past w)
  one_note note w h = note_changes note (map said w.fresh ++ past) (known_at start (map said w.fresh ++ past)).wire (term_in start past w) h

  pub one_side : (weight : ℕ) (side : Side) (w : WorldState) → TellsBehind side → office_in start past (told weight side w) ≡ by_side side (office_in start past w)
  unfolding told
  one_side weight (sides.Own note) w h = absurd h
  one_side weight (sides.Opened place orb) w h = refl
  one_side weight (sides.Ran place orb cdb payload outcome) w h = one_note (notes.Ran _ _ _ _ cdb payload _) w tt
  one_side weight (sides.Ended place orb status) w h = one_note (notes.Ended _ _ _ status) w tt
  one_side weight (sides.Dead place cause) w h = one_note (notes.Dead _ _ cause) w tt
  one_side weight (sides.Cut place cause) w h = one_note (notes.Cut _ _ cause) w tt
  one_side weight (sides.Managed node function subject status login) w h = one_note (notes.Managed _ (function_word function) subject status (login_if (function_word function) status login)) w tt
  one_side weight (sides.ManageFailed node cause) w h = one_note (notes.ManageFailed (initiator_of w node) cause) w tt
  one_side weight (sides.Held login) w h = one_note (notes.Held login) w tt
  one_side weight (sides.Expired login) w h = one_note (notes.Expired login) w tt
  one_side weight (sides.Back login) w h = one_note (notes.Back login) w tt
  one_side weight (sides.Left login) w h = one_note (notes.Left login) w tt
  one_side weight (sides.Cleared unit) w h = one_note (notes.Cleared unit) w tt
  one_side weight (sides.Unsolicited place) w h = one_note (notes.Unsolicited (holder w place).initiator) w tt
  one_side weight (sides.Unsent place) w h = one_note (notes.Unsent _) w tt

  pub all_sides : (weight : ℕ) (later : List Side) (w : WorldState) → AllBehind later → office_in start past (told_all weight later w) ≡ by_sides later (office_in start past w)
  unfolding told_all
  all_sides weight [] w h = refl
  all_sides weight (side ∷ later) w h = all_sides weight later (told weight side w) h.1 ∙ ap (by_sides later) (one_side weight side w h.0)

-- ---- packets leave, and the management asks for none

wants_none : (b : Bool) (t : Target) (serial : ℕ) → t.manager_asks ≡ Nothing → office_of (sent_for None b serial t) ≡ office_of t
wants_none b t serial e = ap (λ (c : Bool). office_of (cond c (record t { manages = Some serial; manager_asks = Nothing }) (record t { pushes = serial ∷ t.pushes }))) (ap (λ a. wants a b) e)

sends_for : (place : Option ℕ) (b : Bool) (t : Target) (serial : ℕ) → t.manager_asks ≡ Nothing → office_of (sent_for place b serial t) ≡ office_of t
sends_for None b t serial e = wants_none b t serial e
sends_for (Some place) b t serial e = refl

sends_part : (part : Part) (b : Bool) (t : Target) (serial : ℕ) → t.manager_asks ≡ Nothing → office_of (sent_as part b serial t) ≡ office_of t
sends_part (request label kind) b t serial e = sends_for (position (wants_it b) t.agents) b t serial e
sends_part (response label kind) b t serial e = refl
sends_part no_packet b t serial e = refl

sends_if : (own : Bool) (part : Part) (b : Bool) (t : Target) (serial : ℕ) → t.manager_asks ≡ Nothing → office_of (cond own (sent_as part b serial t) t) ≡ office_of t
sends_if true part b t serial e = sends_part part b t serial e
sends_if false part b t serial e = refl

module _ (start : List Disk) (past : List Moment) where
  -- an injected packet stands behind a note of its own
  pub posts : (from to : ℕ) (bytes : List ℕ) (w : WorldState) → (office_in start past w).asks ≡ Nothing → office_in start past (posted from to false bytes w) ≡ office_in start past w
  unfolding posted
  posts from to bytes w e =
      let t = term_in start past w in
      let settled = taken_on None t.reply t in
      let keeps = taken_keeps None t.reply t in
      sends_if (from == 0) (part_of bytes) (is_write_access (access_in_bytes bytes)) settled (w.store.last + 1) (ap (λ (o : Office). o.asks) keeps ∙ e) ∙ keeps

  asks : (serial to node peer : ℕ) (label : Option LabelParts) (w : WorldState) → office_in start past (asked serial to node peer label w) ≡ office_in start past w
  asks serial to node peer None w = refl
  asks serial to node peer (Some label) w = refl

  sends_to : (to : Option ℕ) (from : ℕ) (packet : Outgoing) (w : WorldState) → (office_in start past w).asks ≡ Nothing → office_in start past (sent_to to from packet w) ≡ office_in start past w
  sends_to None from packet w e = refl
  sends_to (Some to) from packet w e =
      asks (w.store.last + 1) to from packet.to packet.label (posted from to false packet.bytes w) ∙ posts from to packet.bytes w e

  pub sends_all : (from : ℕ) (packets : List Outgoing) (w : WorldState) → (office_in start past w).asks ≡ Nothing → office_in start past (sent_all from packets w) ≡ office_in start past w
  unfolding sent_all sent
  sends_all from [] w e = refl
  sends_all from (packet ∷ later) w e =
      let one = sends_to (node_of w.generations from packet.to) from packet w e in
      sends_all from later (sent from packet w) (ap (λ (o : Office). o.asks) one ∙ e) ∙ one
