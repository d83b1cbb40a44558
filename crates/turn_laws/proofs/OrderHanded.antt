-- What a call hands out stands in order where the ranks of what it tells rise.
use Rattle.std.proofs.Common.{ℕ, ◌≤◌, List, [], ◌∷◌, Option, Some, None}
use Rattle.sbp_bus.specs.Generations.{node_of}
use Rattle.sbp_journal.specs.Outgoings.{OutboxState}
use Rattle.sbp_journal.specs.Run.{Moment}
use Rattle.sbp_journal.specs.declared.outbox.Outgoing.{Outgoing}
use Rattle.sbp_journal.specs.declared.side.Side.{Side}
use Rattle.sbp_journal.specs.declared.side.Side.TheVariants as sides
use Rattle.sbp_laws.specs.ActionLaw.{InOrder}
use Rattle.sbp_laws.specs.Turns.{turn}
use Rattle.sbp_world.specs.Sending.{sent}
use Rattle.sbp_world.specs.Telling.{told, told_all}
use Rattle.sbp_world.specs.Worlds.{WorldState}
use Rattle.turn_laws.proofs.Handed.{handed, note_of, notes_sent, notes_told, packet_note}
use Rattle.turn_laws.proofs.OrderRanks.{Rises, note_rank, rises_both, rises_in_order, same_rank}

-- that of its note; an opened list has none, and stands where a cut does
abbrev pub side_rank : Side → ℕ
side_rank (sides.Own note) = note_rank note
side_rank (sides.Opened place orb) = 0
side_rank (sides.Cut place cause) = 0
side_rank (sides.Cleared unit) = 1
side_rank (sides.Held login) = 2
side_rank (sides.Expired login) = 2
side_rank (sides.Back login) = 2
side_rank (sides.Left login) = 2
side_rank (sides.Managed node function subject status login) = 3
side_rank (sides.ManageFailed node cause) = 4
side_rank (sides.Ran place orb cdb payload outcome) = 5
side_rank (sides.Ended place orb status) = 6
side_rank (sides.Dead place cause) = 6
side_rank (sides.Unsolicited place) = 7
side_rank (sides.Unsent place) = 7

-- the ranks of what is told rise
abbrev pub InRanks : ℕ → List Side → ℕ → Type 0
InRanks r told_sides top = Rises side_rank r told_sides top

one_rises : (side : Side) (w : WorldState) (r : ℕ) → r ≤ side_rank side → Rises note_rank r (note_of side w) (side_rank side)
one_rises (sides.Opened place orb) w r h = h
one_rises side w r h = (h, same_rank (side_rank side))

told_rises : (weight : ℕ) (later : List Side) (w : WorldState) (r top : ℕ) → InRanks r later top → Rises note_rank r (notes_told weight later w) top
told_rises weight [] w r top h = h
told_rises weight (side ∷ later) w r top h =
    let v = told weight side w in
    rises_both note_rank (note_of side w) (notes_told weight later v) r (side_rank side) top (one_rises side w r h.0) (told_rises weight later v (side_rank side) top h.1)

packet_rises : (to : Option ℕ) (from : ℕ) (packet : Outgoing) (w : WorldState) (r : ℕ) → r ≤ 11 → Rises note_rank r (packet_note to from packet w) 11
packet_rises None from packet w r e = e
packet_rises (Some to) from packet w r e = (e, same_rank 11)

sent_rises : (from : ℕ) (packets : List Outgoing) (w : WorldState) (r : ℕ) → r ≤ 11 → Rises note_rank r (notes_sent from packets w) 11
sent_rises from [] w r e = e
sent_rises from (packet ∷ later) w r e =
    let v = sent from packet w in
    let to = node_of w.generations from packet.to in
    rises_both note_rank (packet_note to from packet w) (notes_sent from later v) r 11 11 (packet_rises to from packet w r e) (sent_rises from later v 11 (same_rank 11))

pub handed_in_order : (past : List Moment) (start : Moment) (node weight : ℕ) (outbox : OutboxState) (w : WorldState) (top : ℕ) → top ≤ 11 → InRanks 0 outbox.sides top → InOrder (turn past start (handed node weight outbox w))
handed_in_order past start node weight outbox w top few h =
    let v = told_all weight outbox.sides w in
    rises_in_order past start (handed node weight outbox w)
    (rises_both note_rank (notes_told weight outbox.sides w) (notes_sent node outbox.packets v) 0 top 11 (told_rises weight outbox.sides w 0 top h) (sent_rises node outbox.packets v top few))
