-- What a node hands out, behind a history: sides of others, packets, and what an initiator tells. They leave the terms of every initiator.
use Rattle.sbp_world.proofs.Words.Std.{◌≡◌, refl, ◌∙◌, ap, ℕ, ◌+◌, false, List, [], ◌∷◌, ◌++◌, map, Option, Some, None}
use Rattle.sbp_world.proofs.Words.Wire.{LabelParts, Moment, said, Outgoing, Note, Side, node_of, topology_at, list_in, orb_in, check_of, function_word, login_if}
use Rattle.sbp_world.proofs.Words.Initiator.{SlotTable}
use Rattle.sbp_world.proofs.Words.Laws.{event_of}
use Rattle.sbp_world.proofs.Words.World.{asked, posted, sent, sent_all, sent_to, holder, initiator_of, ticket_of, told, told_all, WorldState, behind, AreRows, AreNotes, AreOthers, IsNote, IsOther, history, IsNoAbort}
use Rattle.sbp_journal.specs.declared.note.Note.TheVariants as notes
use Rattle.sbp_journal.specs.declared.side.Side.TheVariants as sides
use Rattle.sbp_world.specs.Hosts.Calls.{by_side}
use Rattle.sbp_world.proofs.Hosts.Beside.{beside_rests, sent_rests}

-- ---- what others tell leaves the terms of every initiator

module _ (past : List Moment) (weight i : ℕ) (s : SlotTable) where
  one_other : (side : Side) (w : WorldState) → IsOther side → AreRows (history w past) i s → AreRows (history (told weight side w) past) i s
  unfolding told
  one_other (sides.Own note) w f r = absurd f
  one_other (sides.Opened place orb) w f r = r
  one_other (sides.Ran place orb cdb payload outcome) w f r = beside_rests (history w past) i s r (notes.Ran (holder w place).initiator (list_in (ticket_of w (holder w place).initiator orb)) (orb_in (ticket_of w (holder w place).initiator orb)) (holder w place).unit cdb payload (check_of outcome)) refl
  one_other (sides.Ended place orb status) w f r = beside_rests (history w past) i s r (notes.Ended (holder w place).initiator (list_in (ticket_of w (holder w place).initiator orb)) (orb_in (ticket_of w (holder w place).initiator orb)) status) refl
  one_other (sides.Dead place cause) w f r = beside_rests (history w past) i s r (notes.Dead (holder w place).initiator (holder w place).list cause) refl
  one_other (sides.Cut place cause) w f r = beside_rests (history w past) i s r (notes.Cut (holder w place).initiator (holder w place).list cause) refl
  one_other (sides.Managed node function subject status login) w f r = beside_rests (history w past) i s r (notes.Managed (initiator_of w node) (function_word function) subject status (login_if (function_word function) status login)) refl
  one_other (sides.ManageFailed node cause) w f r = beside_rests (history w past) i s r (notes.ManageFailed (initiator_of w node) cause) refl
  one_other (sides.Held login) w f r = beside_rests (history w past) i s r (notes.Held login) refl
  one_other (sides.Expired login) w f r = beside_rests (history w past) i s r (notes.Expired login) refl
  one_other (sides.Back login) w f r = beside_rests (history w past) i s r (notes.Back login) refl
  one_other (sides.Left login) w f r = beside_rests (history w past) i s r (notes.Left login) refl
  one_other (sides.Cleared unit) w f r = beside_rests (history w past) i s r (notes.Cleared unit) refl
  one_other (sides.Unsolicited place) w f r = beside_rests (history w past) i s r (notes.Unsolicited (holder w place).initiator) refl
  one_other (sides.Unsent place) w f r = beside_rests (history w past) i s r (notes.Unsent (holder w place).initiator) refl

  pub all_others : (side : List Side) (w : WorldState) → AreOthers side → AreRows (history w past) i s → AreRows (history (told_all weight side w) past) i s
  unfolding told_all
  all_others [] w f r = r
  all_others (side ∷ later) w f r = all_others later (told weight side w) f.1 (one_other side w f.0 r)

-- ---- packets

-- a note begins no line
pub line_stays : (ns : List Note) (past : List Moment) → event_of (map said ns ++ past) ≡ event_of past
line_stays [] past = refl
line_stays (note ∷ ns) past = line_stays ns past

module _ (past : List Moment) (i : ℕ) (s : SlotTable) where
  -- what the line and the rows are behind one more packet
  pub record Still (w : WorldState) : Type 0 where
    pub line : IsNoAbort i (event_of (history w past))
    pub rows : AreRows (history w past) i s

  asked_still : (serial to node peer : ℕ) (label : Option LabelParts) (w : WorldState) → Still w → Still (asked serial to node peer label w)
  asked_still serial to node peer None w h = h
  asked_still serial to node peer (Some label) w h = record { line = h.line; rows = h.rows }

  posted_still : (from to : ℕ) (bytes : List ℕ) (w : WorldState) → Still w → Still (posted from to false bytes w)
  unfolding posted
  posted_still from to bytes w h = record {
    line = h.line;
    rows = sent_rests (history w past) i s h.rows (w.store.last + 1) (topology_at w.generations from).generation from to bytes h.line;
  }

  to_still : (to : Option ℕ) (from : ℕ) (packet : Outgoing) (w : WorldState) → Still w → Still (sent_to to from packet w)
  to_still None from packet w h = h
  to_still (Some to) from packet w h = asked_still (w.store.last + 1) to from packet.to packet.label (posted from to false packet.bytes w) (posted_still from to packet.bytes w h)

  sent_still : (from : ℕ) (packet : Outgoing) (w : WorldState) → Still w → Still (sent from packet w)
  unfolding sent
  sent_still from packet w h = to_still (node_of w.generations from packet.to) from packet w h

  pub all_still : (from : ℕ) (packets : List Outgoing) (w : WorldState) → Still w → Still (sent_all from packets w)
  unfolding sent_all
  all_still from [] w h = h
  all_still from (packet ∷ later) w h = all_still from later (sent from packet w) (sent_still from packet w h)

-- ---- what an initiator tells

one_own : (past : List Moment) (weight : ℕ) (side : Side) (w : WorldState) → IsNote side → history (told weight side w) past ≡ by_side side (history w past)
unfolding told
one_own past weight (sides.Own note) w f = refl
one_own past weight (sides.Opened place orb) w f = absurd f
one_own past weight (sides.Ran place orb cdb payload outcome) w f = absurd f
one_own past weight (sides.Ended place orb status) w f = absurd f
one_own past weight (sides.Dead place cause) w f = absurd f
one_own past weight (sides.Cut place cause) w f = absurd f
one_own past weight (sides.Managed node function subject status login) w f = absurd f
one_own past weight (sides.ManageFailed node cause) w f = absurd f
one_own past weight (sides.Held login) w f = absurd f
one_own past weight (sides.Expired login) w f = absurd f
one_own past weight (sides.Back login) w f = absurd f
one_own past weight (sides.Left login) w f = absurd f
one_own past weight (sides.Cleared unit) w f = absurd f
one_own past weight (sides.Unsolicited place) w f = absurd f
one_own past weight (sides.Unsent place) w f = absurd f

pub all_own : (past : List Moment) (weight : ℕ) (side : List Side) (w : WorldState) → AreNotes side → history (told_all weight side w) past ≡ behind side (history w past)
unfolding told_all
all_own past weight [] w f = refl
all_own past weight (side ∷ later) w f = all_own past weight later (told weight side w) f.1 ∙ ap (behind later) (one_own past weight side w f.0)
