-- What a call of a target makes of its transaction layer, and which packets leave it (IEEE 1394-1995,
-- transaction layer; the order within a delivery). A call is one judging, one expiry or one sight of a
-- generation, or leaves the layer alone. Then at most one answer is given, and then requests are made, and
-- transactions are given up between. The packets that the call hands out are those of these steps, in order.
use Rattle.std.specs.Prelude.{◌≡◌, ℕ, Bool, true, false, List, [], ◌∷◌, ◌++◌, Option, Some, None}
use Rattle.async_packet.specs.Packet.{Packet, header_in}
use Rattle.label_table.specs.declared.judgement.Asked.{Asked}
use Rattle.label_table.specs.Layer.{Layer, answering_step, asking_step, new_layer}
use Rattle.label_table.specs.History as wire
use Rattle.sbp_journal.specs.declared.outbox.Outgoing.{Outgoing}
use Rattle.sbp_target.specs.declared.purpose.Purpose.{Purpose}
use Rattle.sbp_target.specs.Nodes.{Scene}
use Rattle.sbp_target.specs.Calls.{Call, receives, lets_expire, sees, ticks, sets_key, done, after, packets_after}

-- a request to a peer, and the response to a request
abbrev pub request : ℕ → Asked → Outgoing
request peer asked = record { to = peer; label = Some asked.label; bytes = asked.bytes }

abbrev pub response : Packet → List ℕ → Outgoing
response p bytes = record { to = (header_in p).source; label = None; bytes = bytes }

-- the layer after steps from this one on, the latest of them first
abbrev pub layer_after : Layer Purpose → List (wire.Call Purpose) → Layer Purpose
layer_after layer [] = layer
layer_after layer (step ∷ steps) = wire.done step (layer_after layer steps)

-- a request that finds no label is not sent
abbrev pub with_asked : ℕ → Option Asked → List Outgoing → List Outgoing
with_asked peer None packets = packets
with_asked peer (Some asked) packets = packets ++ request peer asked ∷ []

-- the packets of steps, in their order
abbrev pub packets_of : Layer Purpose → List (wire.Call Purpose) → List Outgoing
packets_of layer [] = []
packets_of layer (wire.asks peer body purpose ∷ steps) =
    with_asked peer (asking_step (layer_after layer steps) peer body purpose).0 (packets_of layer steps)
packets_of layer (wire.answers p bytes rcode given ∷ steps) =
    packets_of layer steps ++ response p (answering_step (layer_after layer steps) p bytes rcode given).0 ∷ []
packets_of layer (_ ∷ steps) = packets_of layer steps

-- the step that a call begins with
abbrev pub first_of : Call → List (wire.Call Purpose)
first_of (receives told disks generation bytes) = wire.judges generation bytes ∷ []
first_of (lets_expire peer label) = wire.lets_expire peer label ∷ []
first_of (sees generation id) = wire.sees generation id ∷ []
first_of ticks = []
first_of (sets_key unit key) = []

-- something was answered or asked
abbrev pub has_sent : List (wire.Call Purpose) → Bool
has_sent [] = false
has_sent (wire.answers p bytes rcode given ∷ steps) = true
has_sent (wire.asks peer body purpose ∷ steps) = true
has_sent (_ ∷ steps) = has_sent steps

-- The steps behind the first: an answer has neither another answer nor a request before it.
abbrev pub InOrder : List (wire.Call Purpose) → Type 0
InOrder [] = Unit {0}
InOrder (wire.answers p bytes rcode given ∷ steps) = (has_sent steps ≡ false) × InOrder steps
InOrder (wire.asks peer body purpose ∷ steps) = InOrder steps
InOrder (wire.disowns peer label ∷ steps) = InOrder steps
InOrder (_ ∷ steps) = ⊥

-- From one layer to another by a first step and more, which hand out these packets behind the others.
pub record IsMade (first : List (wire.Call Purpose)) (before now : Layer Purpose) (others packets : List Outgoing) : Type 0 where
  pub steps : List (wire.Call Purpose)
  pub order : InOrder steps
  pub layer_is : layer_after before (steps ++ first) ≡ now
  pub packets_are : packets ≡ others ++ packets_of before (steps ++ first)

-- The steps of a layer from a new one on, and all their packets.
pub record IsRun (node : ℕ) (layer : Layer Purpose) (packets : List Outgoing) : Type 0 where
  pub steps : List (wire.Call Purpose)
  pub layer_is : wire.after node steps ≡ layer
  pub packets_are : packets ≡ packets_of (new_layer node) steps

-- Each call, whatever it finds, is such steps. So after every list of calls the layer is that of a list of its own
-- calls, of which the laws of the transaction layer speak, and all packets are theirs.
pub record LayerLaw : Type 0 where
  pub each : (call : Call) (s : Scene) → IsMade (first_of call) s.node.layer (done call s).node.layer s.outbox.packets (done call s).outbox.packets
  pub all : (units ready : ℕ) (calls : List Call) → IsRun 0xffc0 (after units ready calls).layer (packets_after units ready calls)
