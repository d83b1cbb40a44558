-- How a world goes on by moves: it begins as the wire does, each move that may be made leads on, and what is known of every wire that is
-- reached so. A world whose events are lists of moves has every law that holds `Always`.
use Rattle.std.specs.Prelude.{◌≡◌, ℕ, ◌<◌, ◌≤◌, List, Some, None, Ok}
use Rattle.async_packet.specs.Packet.{Packet, header_in}
use Rattle.async_packet.specs.Reading.{reading}
use Rattle.packet_store.specs.declared.sent.Sent.{Sent}
use Rattle.packet_store.specs.Kept.{found, found_sent, is_flying}
use Rattle.sbp_journal.specs.Transactions.{Kind, request, part_of, Transaction, Sending, begun_by}
use Rattle.sbp_journal.specs.Wire.{Terms, terms, waits}
use Rattle.bus_transactions.specs.Wire.{Wire, beginning}
use Rattle.bus_transactions.specs.Moves.{Move, moved, after}
use Rattle.bus_transactions.specs.May.{May, MayAll}

-- a wire that a list of moves leads to
pub record Reached (w : Wire) : Type 0 where
  pub moves : List Move
  pub may : MayAll moves
  pub is : w ≡ after moves

-- the request that a label waits for is the present one of its transaction, and of its kind
pub record IsAwaited (t : Terms) (u : Transaction) (kind : Kind) (serial : ℕ) : Type 0 where
  pub current : serial ≡ t.current u
  pub packet : Sending
  pub sent : t.sent serial ≡ Some packet
  pub begun : begun_by packet ≡ Some u
  pub part : part_of packet.bytes ≡ request u.label kind

-- whose packet it is: of one of five nodes to one of five, with the ID of its sender in its generation, which its sender has reached
pub record IsOf (t : Terms) (packet : Sending) : Type 0 where
  pub from : packet.from < 5
  pub to : packet.to < 5
  pub past : packet.generation ≤ t.bus
  pub source : (p : Packet) → reading packet.bytes ≡ Ok p → (header_in p).source ≡ t.ids packet.generation packet.from

pub record GoesOn : Type 0 where
  pub begins : Reached beginning
  pub more : (w : Wire) (move : Move) → Reached w → May move w → Reached (moved move w)
  -- what the store's own calls tell of a packet
  pub finds : (w : Wire) (s : ℕ) (q : Sent) → Reached w → found_sent s w.store.kept ≡ Some q → found s w.store.kept ≡ Some (record { serial = s; in_flight = is_flying s w.store.kept; sent = q })
  -- no two nodes have one ID in a generation
  pub apart : (w : Wire) (generation i j : ℕ) → Reached w → (terms w.past).ids generation i ≡ (terms w.past).ids generation j → i ≡ j
  pub packets : (w : Wire) (s : ℕ) (q : Sending) → Reached w → (terms w.past).sent s ≡ Some q → IsOf (terms w.past) q
  pub awaited : (w : Wire) (u : Transaction) (kind : Kind) (s : ℕ) → Reached w → (terms w.past).held u ≡ waits kind s → IsAwaited (terms w.past) u kind s
  pub settled : (w : Wire) → Reached w → w.due ≡ None → (terms w.past).owes ≡ None
