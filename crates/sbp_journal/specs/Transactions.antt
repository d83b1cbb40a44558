-- Packets as parts of transactions (IEEE 1394-1995, transaction layer): a node, the requester, sends a request under a label, and the
-- responder answers it under the same label.
use Rattle.std.specs.Prelude.{ℕ, ◌+◌, ◌==◌, ◌&&◌, Bool, true, false, if◌then◌else◌, List, Option, Some, None, Result, Ok, Err}
use Rattle.async_packet.specs.declared.fault.PacketFault.{PacketFault}
use Rattle.async_packet.specs.Packet.{Packet, header_in, write_quadlet, write_block, write_response, read_quadlet, read_block, read_quadlet_response, read_block_response, lock, lock_response}
use Rattle.async_packet.specs.Reading.{reading}

-- what a request asks for, which is also what its response answers
pub data Kind : Type 0 where
  writing : Kind
  reading_quadlet : Kind
  reading_block : Kind
  locking : Kind

abbrev pub is_same_kind : Kind → Kind → Bool
is_same_kind writing writing = true
is_same_kind reading_quadlet reading_quadlet = true
is_same_kind reading_block reading_block = true
is_same_kind locking locking = true
is_same_kind kind other = false

-- the part of bytes in a transaction: its request or its response, under a label, or none
pub data Part : Type 0 where
  request : (label : ℕ) → Kind → Part
  response : (label : ℕ) → Kind → Part
  no_packet : Part

abbrev pub part_in : Packet → Part
part_in (write_quadlet header offset value) = request header.label writing
part_in (write_block header offset payload) = request header.label writing
part_in (write_response header rcode) = response header.label writing
part_in (read_quadlet header offset) = request header.label reading_quadlet
part_in (read_block header offset asked) = request header.label reading_block
part_in (read_quadlet_response header rcode value) = response header.label reading_quadlet
part_in (read_block_response header rcode payload) = response header.label reading_block
part_in (lock header offset extended payload) = request header.label locking
part_in (lock_response header rcode extended payload) = response header.label locking

abbrev pub part_by : Result Packet PacketFault → Part
part_by (Ok packet) = part_in packet
part_by (Err fault) = no_packet

unfoldable pub part_of : List ℕ → Part
part_of bytes = part_by (reading bytes)

-- whether bytes are a packet to the node with this ID
abbrev pub is_to_by : Result Packet PacketFault → ℕ → Bool
is_to_by (Ok packet) id = (header_in packet).destination == id
is_to_by (Err fault) id = false

unfoldable pub is_to : List ℕ → ℕ → Bool
is_to bytes id = is_to_by (reading bytes) id

-- A transaction is told apart by its generation, its requester, its responder and its label. Nodes are numbered as in notes: 0 is the
-- target, i + 1 is initiator i.
pub record Transaction : Type 0 where
  pub generation : ℕ
  pub requester : ℕ
  pub responder : ℕ
  pub label : ℕ

unfoldable pub is_same : Transaction → Transaction → Bool
is_same t u =
    ((t.generation == u.generation) && (t.requester == u.requester)) && ((t.responder == u.responder) && (t.label == u.label))

-- a term of transactions with another value at one
abbrev pub at : {A : Type 0} → (Transaction → A) → Transaction → A → Transaction → A
at term t value = λ u. if is_same u t then value else term u

-- a packet as it was sent: the generation of its sender, the nodes that it goes from and to, its bytes, and whether it was injected
pub record Sending : Type 0 where
  pub generation : ℕ
  pub from : ℕ
  pub to : ℕ
  pub bytes : List ℕ
  pub injected : Bool

-- the transaction of a request of one node to another under a label
abbrev pub between : Sending → (requester responder label : ℕ) → Transaction
between packet requester responder label =
    record { generation = packet.generation; requester = requester; responder = responder; label = label }

-- the transaction that a request is of, injected or not; nothing else is a request
abbrev pub asked_as : Part → Sending → Option Transaction
asked_as (request label kind) packet = Some (between packet packet.from packet.to label)
asked_as _ packet = None

unfoldable pub asked_by : Sending → Option Transaction
asked_by packet = asked_as (part_of packet.bytes) packet

-- the transaction that a packet begins: an injected request begins none
abbrev pub begun_if : Bool → Option Transaction → Option Transaction
begun_if true asked = None
begun_if false asked = asked

unfoldable pub begun_by : Sending → Option Transaction
begun_by packet = begun_if packet.injected (asked_by packet)

-- the transaction that a packet belongs to: a request to the one that it begins, a response, injected or not, to that of its
-- destination with its source under its label
abbrev pub belongs_as : Part → Sending → Option Transaction
belongs_as (response label kind) packet = Some (between packet packet.to packet.from label)
belongs_as part packet = begun_if packet.injected (asked_as part packet)

abbrev pub is_that : Option Transaction → Transaction → Bool
is_that None t = false
is_that (Some u) t = is_same u t

unfoldable pub belongs : Sending → Transaction → Bool
belongs packet t = is_that (belongs_as (part_of packet.bytes) packet) t
