-- What the history tells of the packets and the requests of a world: each packet that was sent is from one of its nodes to one of them, and has bytes; and
-- each request that the world finds by its serial is the present one of its transaction, with the node whose ID its sender asked. An
-- initiator asks the target alone. And the request of each transaction that waits at a node's layer is found, with the handle that the layer takes.
use Rattle.std.specs.Prelude.{◌≡◌, ◌≤◌, ◌<◌, ℕ, length, slice_index_or, Option, Some, None}
use Rattle.sbp_journal.specs.Transactions.{Sending, Transaction}
use Rattle.sbp_journal.specs.Wire.{Terms}
use Rattle.bus_transactions.specs.Fitting.{AreBytes}
use Rattle.bus_transactions.specs.Wire.{Node, transaction}
use Rattle.label_table.specs.declared.place.LabelState.TheVariants as states
use Rattle.label_table.specs.declared.reply.ReplyKind.{ReplyKind}
use Rattle.label_table.specs.Peers.{state_for}
use Rattle.sbp_bus.specs.declared.requests.Request.{Request}
use Rattle.sbp_bus.specs.Requests.{RequestsState, find, serial_at}
use Rattle.sbp_bus.specs.Sending.{request_of}

pub record IsOurs (nodes : ℕ) (packet : Sending) : Type 0 where
  pub from : packet.from ≤ nodes
  pub to : packet.to ≤ nodes
  pub bytes : AreBytes packet.bytes

-- the request with a serial
pub record IsLatest (requests : RequestsState) (ids : ℕ → ℕ → ℕ) (current : Transaction → ℕ) (bus serial : ℕ) (request : Request) : Type 0 where
  pub to : ℕ
  pub to_small : to < 5
  pub node_small : request.node < 5
  pub number_small : request.label.number < 64
  pub aimed : 0 < request.node → to ≡ 0
  pub past : request.label.generation ≤ bus
  pub peer_is : request.peer ≡ ids request.label.generation to
  pub current_is : current (transaction request.label.generation request.node to request.label.number) ≡ serial
  pub place_is : serial_at requests request.node to request.label.number ≡ serial

-- the request of a transaction that waits, by its handle, is found by the serial that stands at its place
pub record IsEntered (requests : RequestsState) (node peer number : ℕ) (request : Request) : Type 0 where
  pub written : 0 < serial_at requests node peer number
  pub found : find requests (serial_at requests node peer number) ≡ Some request

-- at the layers of the nodes, where nodes have these IDs by generation
pub record AreEntered (requests : RequestsState) (nodes : ℕ) (layer : ℕ → Node) (ids : ℕ → ℕ → ℕ) : Type 0 where
  pub entry : (node peer number : ℕ) (kind : ReplyKind) (call : ℕ) → node ≤ nodes → peer ≤ nodes → number < 64 → state_for (layer node).peers (ids (layer node).generation peer) number ≡ states.UnderWay kind call → IsEntered requests node peer number (request_of node (ids (layer node).generation peer) (record { number = number; generation = (layer node).generation; serial = call }))

-- by what the terms of a history say of IDs, packets and requests
pub record KnowsBy (requests : RequestsState) (nodes : ℕ) (ids : ℕ → ℕ → ℕ) (sent : ℕ → Option Sending) (current : Transaction → ℕ) (bus count : ℕ) : Type 0 where
  pub ours : (s : ℕ) (packet : Sending) → sent s ≡ Some packet → IsOurs nodes packet
  pub size : length requests.serials ≡ 1600
  pub room : length requests.requests ≡ 1600
  pub below : (place : ℕ) → slice_index_or requests.serials place 0 ≤ count
  pub apart : (one two : ℕ) → 0 < slice_index_or requests.serials one 0 → slice_index_or requests.serials one 0 ≡ slice_index_or requests.serials two 0 → one ≡ two
  pub blank : (place : ℕ) → slice_index_or requests.serials place 0 ≡ 0 → slice_index_or requests.requests place None ≡ None
  pub latest : (s : ℕ) (request : Request) → find requests s ≡ Some request → IsLatest requests ids current bus s request

abbrev pub Knows : RequestsState → (nodes : ℕ) → Terms → Type 0
Knows requests nodes t = KnowsBy requests nodes t.ids t.sent t.current t.bus t.count
