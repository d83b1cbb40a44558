-- What the lines of a run know beside the statements that they carry on: that a layer is what the history says of its labels, which packet is
-- heard, and that a packet is delivered or a transaction times out elsewhere.
use Rattle.sbp_world.proofs.Words.Wire.{Packet, header_in, reading, shape, shape_of, is_to, transaction, Layer, state_for, Moment, Sending, terms, Note}
use Rattle.sbp_world.proofs.Words.Initiator.{Purpose}
use Rattle.std.specs.Prelude.{◌≡◌, ℕ, suc, ◌==◌, false, true, List, Some, Ok}
use Rattle.sbp_journal.specs.declared.note.Note.TheVariants as notes

-- it and its target have the IDs that the history says, and the labels of an initiator to it are what the history says of them
pub record IsShown (past : List Moment) (i target : ℕ) (layer : Layer Purpose) : Type 0 where
  pub generation : layer.generation ≡ (terms past).generation (suc i)
  pub named : (terms past).ids layer.generation 0 ≡ target
  pub own : (terms past).ids layer.generation (suc i) ≡ layer.node
  pub states : (number : ℕ) → shape (state_for layer.peers target number) ≡ shape_of ((terms past).held (transaction layer.generation (suc i) 0 number))

-- the packet that an initiator hears
pub record IsHeard (past : List Moment) (i serial generation : ℕ) (bytes : List ℕ) : Type 0 where
  pub packet : Sending
  pub sent : (terms past).sent serial ≡ Some packet
  pub generation_is : packet.generation ≡ generation
  pub bytes_are : packet.bytes ≡ bytes
  pub to_is : packet.to ≡ suc i
  -- it names the node that sent it and, where it was not injected, the one that it goes to; and no two nodes have one ID in a generation
  pub source : (p : Packet) → reading packet.bytes ≡ Ok p → (header_in p).source ≡ (terms past).ids packet.generation packet.from
  pub goes : packet.injected ≡ false → is_to packet.bytes ((terms past).ids packet.generation packet.to) ≡ true
  pub apart : (generation one other : ℕ) → (terms past).ids generation one ≡ (terms past).ids generation other → one ≡ other

-- a packet does not go to an initiator, and does not come from it
abbrev pub NotTo : List Moment → ℕ → ℕ → Type 0
NotTo past i serial = (packet : Sending) → (terms past).sent serial ≡ Some packet → (packet.to == suc i) ≡ false

abbrev pub NotFrom : List Moment → ℕ → ℕ → Type 0
NotFrom past i serial = (packet : Sending) → (terms past).sent serial ≡ Some packet → (packet.from == suc i) ≡ false

-- a packet that is delivered is none of this initiator's, and a transaction that times out is not either; a packet that is sent is none of the target's
abbrev pub IsElsewhere : List Moment → ℕ → Note → Type 0
IsElsewhere past i (notes.Got serial) = NotTo past i serial
IsElsewhere past i (notes.Ignored serial cause) = NotTo past i serial
IsElsewhere past i (notes.TimedOut serial) = NotFrom past i serial
IsElsewhere past i (notes.Sent serial generation from to bytes) = (from == 0) ≡ false
IsElsewhere past i _ = Unit {0}
