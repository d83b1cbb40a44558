-- What is read off a history of packets, nodes and labels, by the terms of the wire. Nodes are numbered as in notes: 0 is the target, i + 1
-- initiator i.
use Rattle.std.specs.Prelude.{ℕ, zero, suc, ◌+◌, ◌==◌, ◌&&◌, ◌||◌, not, Bool, true, false, if◌then◌else◌, List, Option, Some, None, Result, Ok, Err}
use Rattle.byteorder.specs.Endian.{big_bytes}
use Rattle.async_packet.specs.declared.fault.PacketFault.{PacketFault}
use Rattle.async_packet.specs.Packet.{Packet, write_response, read_quadlet_response, read_block_response}
use Rattle.async_packet.specs.Reading.{reading}
use Rattle.async_packet.specs.Canon.{canon}
use Rattle.orb_layout.specs.Replies.{Answer, Payload, Done, Refused}
use Rattle.label_table.specs.Requests.{is_write, is_last, with_label}
use Rattle.label_table.specs.Bodies.{Body, header_to, request_with}
use Rattle.sbp_journal.specs.Addresses.{Access, access_of}
use Rattle.sbp_journal.specs.Transactions.{Part, response, part_of, Kind, is_same_kind, Transaction, Sending, between, begun_by}
use Rattle.sbp_journal.specs.Wire.{Terms, Held, free, waits, rests}

-- a packet by its serial, and what its bytes spell
abbrev pub spelled_by : Result Packet PacketFault → Option Packet
spelled_by (Ok packet) = Some packet
spelled_by (Err fault) = None

abbrev pub packet_in : Option Sending → Option Packet
packet_in None = None
packet_in (Some sending) = spelled_by (reading sending.bytes)

abbrev pub packet_at : Terms → ℕ → Option Packet
packet_at wire serial = packet_in (wire.sent serial)

-- what a request asks for
abbrev pub access_in : Option Packet → Option Access
access_in None = None
access_in (Some packet) = access_of packet

abbrev pub access_in_bytes : List ℕ → Option Access
access_in_bytes bytes = access_in (spelled_by (reading bytes))

abbrev pub access_at : Terms → ℕ → Option Access
access_at wire serial = access_in (packet_at wire serial)

-- the nodes that a packet goes from and to
abbrev pub sender_in : Option Sending → Option ℕ
sender_in None = None
sender_in (Some sending) = Some sending.from

abbrev pub receiver_in : Option Sending → Option ℕ
receiver_in None = None
receiver_in (Some sending) = Some sending.to

-- the ID of a node in the generation that it is in, and of another as that node knows it
abbrev pub id_of : Terms → ℕ → ℕ
id_of wire node = wire.ids (wire.generation node) node

abbrev pub id_for : Terms → ℕ → ℕ → ℕ
id_for wire node other = wire.ids (wire.generation node) other

-- ---- transactions
-- the request that a response closes: its transaction is under way, and its kind is the one that is waited for
abbrev pub closed_by : Held → Kind → Option ℕ
closed_by (waits kind serial) other = if is_same_kind kind other then Some serial else None
closed_by free other = None
closed_by rests other = None

abbrev pub answered_as : Part → Terms → Sending → Option ℕ
answered_as (response label kind) wire sending = closed_by (wire.held (between sending sending.to sending.from label)) kind
answered_as part wire sending = None

abbrev pub answered_in : Terms → Option Sending → Option ℕ
answered_in wire None = None
answered_in wire (Some sending) = answered_as (part_of sending.bytes) wire sending

-- the serial of the request that packet `serial` answers
abbrev pub answered_at : Terms → ℕ → Option ℕ
answered_at wire serial = answered_in wire (wire.sent serial)

-- the request with this serial is under way
abbrev pub is_waiting_for : Held → ℕ → Bool
is_waiting_for (waits kind other) serial = other == serial
is_waiting_for free serial = false
is_waiting_for rests serial = false

-- its requester is still in its generation: a reset that a node sees ends its transactions, and its labels are new (IEEE 1394-1995, bus reset)
abbrev pub is_of_now : Terms → Transaction → Bool
is_of_now wire transaction = wire.generation transaction.requester == transaction.generation

abbrev pub waits_for : Terms → Option Transaction → ℕ → Bool
waits_for wire None serial = false
waits_for wire (Some transaction) serial = is_of_now wire transaction && is_waiting_for (wire.held transaction) serial

abbrev pub begun_in : Option Sending → Option Transaction
begun_in None = None
begun_in (Some sending) = begun_by sending

abbrev pub is_under_way : Terms → ℕ → Bool
is_under_way wire serial = waits_for wire (begun_in (wire.sent serial)) serial

-- the label of the request with this serial rests
abbrev pub is_resting : Held → Bool
is_resting rests = true
is_resting free = false
is_resting (waits kind serial) = false

abbrev pub rests_for : Terms → Option Transaction → ℕ → Bool
rests_for wire None serial = false
rests_for wire (Some transaction) serial = is_of_now wire transaction && is_resting (wire.held transaction) && (wire.current transaction == serial)

abbrev pub has_resting_label : Terms → ℕ → Bool
has_resting_label wire serial = rests_for wire (begun_in (wire.sent serial)) serial

-- what a response tells
abbrev pub bytes_if : ℕ → List ℕ → Answer
bytes_if rcode bytes = if rcode == 0 then Payload bytes else Refused rcode

abbrev pub answer_of : Packet → Answer
answer_of (write_response header rcode) = if rcode == 0 then Done else Refused rcode
answer_of (read_quadlet_response header rcode value) = bytes_if rcode (big_bytes 4 value)
answer_of (read_block_response header rcode payload) = bytes_if rcode payload
answer_of _ = Done

abbrev pub answer_in : Option Packet → Answer
answer_in None = Done
answer_in (Some packet) = answer_of packet

-- ---- labels (NCITS 325-1998 leaves the choice; this one is the project's own)
abbrev pub to_peer : Terms → ℕ → ℕ → ℕ → Transaction
to_peer wire node peer label = record { generation = wire.generation node; requester = node; responder = peer; label = label }

abbrev pub is_free : Held → Bool
is_free free = true
is_free (waits kind serial) = false
is_free rests = false

-- a label serves a request that is free and, of a write, whose last request differs
abbrev pub serves : Terms → ℕ → ℕ → List ℕ → ℕ → Bool
serves wire node peer bytes label =
    is_free (wire.held (to_peer wire node peer label))
    && (not (is_write bytes) || not (is_last (wire.last (to_peer wire node peer label)) (with_label label bytes)))

-- the lowest label from one on, among so many, that serves
unfoldable pub lowest_from : ℕ → (ℕ → Bool) → ℕ → Option ℕ
lowest_from zero test label = None
lowest_from (suc tries) test label = if test label then Some label else lowest_from tries test (label + 1)

-- the label of a new request of a node to a peer
unfoldable pub label_for : Terms → ℕ → ℕ → List ℕ → Option ℕ
label_for wire node peer bytes = lowest_from 64 (serves wire node peer bytes) 0

-- how many of the labels from one on are free
unfoldable pub free_from : ℕ → (ℕ → Bool) → ℕ
free_from zero test = 0
free_from (suc label) test = (if test label then 1 else 0) + free_from label test

abbrev pub free_labels : Terms → ℕ → ℕ → ℕ
free_labels wire node peer = free_from 64 (λ label. is_free (wire.held (to_peer wire node peer label)))

-- the bytes of a request of a node to a peer, under label 0
abbrev pub request_bytes : Terms → ℕ → ℕ → Body → List ℕ
request_bytes wire node peer body = canon (request_with (header_to (id_of wire node) (id_for wire node peer) 0) body)

abbrev pub finds_label : Terms → ℕ → ℕ → Body → Bool
finds_label wire node peer body = is_found (label_for wire node peer (request_bytes wire node peer body))
  where
    is_found : Option ℕ → Bool
    is_found None = false
    is_found (Some label) = true
