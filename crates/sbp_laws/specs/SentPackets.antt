-- The sent law, of packets (IEEE 1394-1995, asynchronous packets). Serials count from 1. A packet that is not injected is canonical, with
-- retry code 1 and priority 0, from its sender's ID to its receiver's in its sender's generation. A request has the lowest label that serves
-- it.
use Rattle.std.specs.Prelude.{◌≡◌, ℕ, ◌+◌, false, List, Some}
use Rattle.async_packet.specs.Packet.{Packet, header_in}
use Rattle.async_packet.specs.Canon.{canon}
use Rattle.sbp_journal.specs.Run.{Moment, said}
use Rattle.sbp_journal.specs.Transactions.{Part, request, part_of}
use Rattle.sbp_journal.specs.Wire.{Terms, terms}
use Rattle.sbp_journal.specs.declared.note.Note.TheVariants as notes
use Rattle.sbp_laws.specs.Packets.{id_of, id_for, label_for}

-- ---- packets
-- the bytes of a packet as a node sends it: canonical, with retry code 1 and priority 0, from its ID to that of another
pub record IsFromTo (wire : Terms) (from to : ℕ) (bytes : List ℕ) : Type 0 where
  pub packet : Packet
  pub canonical : bytes ≡ canon packet
  pub retry : (header_in packet).retry ≡ 1
  pub priority : (header_in packet).priority ≡ 0
  pub source : (header_in packet).source ≡ id_of wire from
  pub destination : (header_in packet).destination ≡ id_for wire from to

abbrev pub HasLabel : Part → Terms → (from to : ℕ) → List ℕ → Type 0
HasLabel (request label kind) wire from to bytes = label_for wire from to bytes ≡ Some label
HasLabel part wire from to bytes = Unit {0}

pub record IsOwn (wire : Terms) (generation from to : ℕ) (bytes : List ℕ) : Type 0 where
  pub in_generation : generation ≡ wire.generation from
  pub spelled : IsFromTo wire from to bytes
  pub label : HasLabel (part_of bytes) wire from to bytes

-- Serials count from 1. What is sent without being injected is as a node sends it.
abbrev pub SentAt : Moment → List Moment → Type 0
SentAt (said (notes.Sent serial generation from to bytes)) past =
    (serial ≡ (terms past).count + 1) × ((terms past).injected serial ≡ false → IsOwn (terms past) generation from to bytes)
SentAt moment past = Unit {0}
