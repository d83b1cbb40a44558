-- What the target asks for finds a label, in a run in which nobody injected packets, where nothing was lost and few of its labels to an initiator are of lists
-- that were cut (IEEE 1394-1995, transaction layer; NCITS 325-1998, command block agents and management agent). In a call the target judges a packet, answers
-- it, gives transactions up, and asks the initiator. Behind fewer than 20 requests a read finds a label; behind four at most 16 are free, so a read ahead is
-- sent. A write finds one where the last request under some free label is another: the label of the request that a response closed has that as its last request.
use Rattle.std.specs.Prelude.{◌≡◌, ◌≤◌, ◌<◌, ℕ, suc, ◌+◌, is_some, true, false, List, length, Option, Some}
use Rattle.async_packet.specs.Labels.{LabelParts}
use Rattle.async_packet.specs.Packet.{Packet, header_in}
use Rattle.bus_transactions.specs.Rows.{kind_as}
use Rattle.label_table.specs.declared.place.LabelState.TheVariants as states
use Rattle.label_table.specs.Bodies.{Body, block_read, quadlet_read}
use Rattle.label_table.specs.Layer.{Layer, answering_step, asking_step, disowning_step, free_labels, judging_step, of_response, unlabelled}
use Rattle.label_table.specs.Peers.{last_for, state_for}
use Rattle.label_table.specs.Requests.{is_last, reply_kind, with_label}
use Rattle.rbc_disk.specs.Disk.{Disk}
use Rattle.sbp_journal.specs.Run.{Moment}
use Rattle.sbp_journal.specs.Transactions.{Kind, Sending, part_of, request}
use Rattle.sbp_journal.specs.Wire.{terms, waits}
use Rattle.sbp_laws.specs.Packets.{id_for, to_peer}
use Rattle.sbp_target.specs.declared.purpose.Purpose.{Purpose}
use Rattle.target_base.specs.Logins.{is_below_reserve}
use Rattle.sbp_world.specs.Worlds.{WorldState}
use Rattle.sbp_world.specs.Completing.Labels.{AlwaysFrom, LosesNothing, of_cut_lists}
use Rattle.sbp_world.specs.Lists.Closes.{Always}
use Rattle.sbp_world.specs.Lists.OwnLogins.{IsTame}

-- ---- a layer in a call, behind so many requests to a peer
pub data Behind (first : Layer Purpose) (peer : ℕ) : (made : ℕ) → Layer Purpose → Type 0 where
  begins : Behind first peer 0 first
  judges : (made : ℕ) (layer : Layer Purpose) (generation : ℕ) (bytes : List ℕ) → Behind first peer made layer → Behind first peer made (judging_step layer generation bytes).1
  answers : (made : ℕ) (layer : Layer Purpose) (p : Packet) (bytes : List ℕ) (rcode : ℕ) (given : List ℕ) → Behind first peer made layer → Behind first peer made (answering_step layer p bytes rcode given).1
  gives_up : (made : ℕ) (layer : Layer Purpose) (other : ℕ) (label : LabelParts) → Behind first peer made layer → Behind first peer made (disowning_step layer other label)
  asks : (made : ℕ) (layer : Layer Purpose) (body : Body) (purpose : Purpose) → Behind first peer made layer → Behind first peer (suc made) (asking_step layer peer body purpose).1

-- ---- what is found
abbrev pub Finds : Layer Purpose → (peer : ℕ) → Body → Type 0
Finds layer peer body = (purpose : Purpose) → is_some (asking_step layer peer body purpose).0 ≡ true

-- a free label under which another request was the last one
pub record Serves (layer : Layer Purpose) (peer : ℕ) (body : Body) : Type 0 where
  pub number : ℕ
  pub small : number < 64
  pub free : state_for layer.peers peer number ≡ states.Free
  pub other : is_last (last_for layer.peers peer number) (with_label number (unlabelled layer peer body)) ≡ false

pub record FindsLabels (first : Layer Purpose) (peer : ℕ) : Type 0 where
  pub left : (made : ℕ) (layer : Layer Purpose) → Behind first peer made layer → 20 ≤ free_labels layer peer + made
  pub reads : (made : ℕ) (layer : Layer Purpose) → Behind first peer made layer → made < 20 → (offset len : ℕ) → Finds layer peer (block_read offset len)
  pub quadlets : (made : ℕ) (layer : Layer Purpose) → Behind first peer made layer → made < 20 → (offset : ℕ) → Finds layer peer (quadlet_read offset)
  pub ahead : (made : ℕ) (layer : Layer Purpose) → Behind first peer made layer → made ≤ 4 → is_below_reserve (free_labels layer peer) ≡ false
  pub others : (made : ℕ) (layer : Layer Purpose) → Behind first peer made layer → (body : Body) → Serves layer peer body → Finds layer peer body

abbrev pub AreFound : List Disk → List Moment → WorldState → Type 0
AreFound start past w = IsTame past → LosesNothing past → (i : ℕ) → i < length w.initiators → of_cut_lists start past i ≤ 40 → FindsLabels w.target.layer (id_for (terms past) 0 (suc i))

abbrev pub FoundLaw : Type 0
FoundLaw = AlwaysFrom AreFound

-- ---- the label that a response closes
-- it is free, and these bytes were its last request
pub record IsClosed (layer : Layer Purpose) (peer number : ℕ) (bytes : List ℕ) : Type 0 where
  pub small : number < 64
  pub free : state_for layer.peers peer number ≡ states.Free
  pub last : last_for layer.peers peer number ≡ Some bytes

-- the request to a node that waited for a response, and its label as it is then, and as it stays while transactions are given up
pub record Closes (past : List Moment) (layer : Layer Purpose) (node : ℕ) (p : Packet) : Type 0 where
  pub kind : Kind
  pub serial : ℕ
  pub packet : Sending
  pub waited : (terms past).held (to_peer (terms past) 0 node (header_in p).label) ≡ waits kind serial
  pub sent : (terms past).sent serial ≡ Some packet
  pub part : part_of packet.bytes ≡ request (header_in p).label kind
  pub answered : reply_kind p ≡ Some (kind_as kind)
  pub closed : IsClosed layer (id_for (terms past) 0 node) (header_in p).label packet.bytes

-- so it is of a response to the target, which a node sent
pub record IsResponse (w : WorldState) (generation : ℕ) (bytes : List ℕ) (p : Packet) (id : ℕ) : Type 0 where
  pub label : LabelParts
  pub purpose : Option Purpose
  pub found : (judging_step w.target.layer generation bytes).0 ≡ of_response p label purpose
  pub source : (header_in p).source ≡ id

abbrev pub AreClosed : List Moment → WorldState → Type 0
AreClosed past w = (generation : ℕ) (bytes : List ℕ) (p : Packet) (node : ℕ) → IsResponse w generation bytes p (id_for (terms past) 0 node) → Closes past (judging_step w.target.layer generation bytes).1 node p

abbrev pub ClosedLaw : Type 0
ClosedLaw = Always AreClosed
