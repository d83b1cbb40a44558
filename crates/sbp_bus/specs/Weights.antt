-- What the packets that a node hands out weigh as they leave, for any weight of a packet by its serial and what is sent.
use Rattle.std.specs.Prelude.{ℕ, ◌+◌, ◌≤◌, false, List, [], ◌∷◌, Option, Some, None}
use Rattle.packet_store.specs.declared.sent.Sent.{Sent}
use Rattle.packet_store.specs.Weights.{weight}
use Rattle.sbp_journal.specs.declared.outbox.Outgoing.{Outgoing}
use Rattle.sbp_bus.specs.Buses.{BusState}
use Rattle.sbp_bus.specs.Generations.{GenerationsState, node_of, topology_at}
use Rattle.sbp_bus.specs.Sending.{packet_of, sent_all}

-- A packet of a node leaves under the next serial, with the generation that its sender knows; one to an ID that no node has is not sent.
abbrev pub leaving_to : Option ℕ → (ℕ → Sent → ℕ) → GenerationsState → (from last : ℕ) → List ℕ → ℕ
leaving_to None f generations from last bytes = 0
leaving_to (Some to) f generations from last bytes =
    f (last + 1) (packet_of (topology_at generations from).generation from to false bytes)

-- the last serial then
abbrev pub last_after : Option ℕ → ℕ → ℕ
last_after None last = last
last_after (Some to) last = last + 1

-- all packets of a node, behind the last serial
abbrev pub leaving : (ℕ → Sent → ℕ) → GenerationsState → (from last : ℕ) → List Outgoing → ℕ
leaving f generations from last [] = 0
leaving f generations from last (packet ∷ later) =
    let to = node_of generations from packet.to in
    leaving_to to f generations from last packet.bytes + leaving f generations from (last_after to last) later

-- As packets leave, what is in flight rises by their weight at most.
abbrev pub LeavingLaw : Type 0
LeavingLaw = (f : ℕ → Sent → ℕ) (from : ℕ) (packets : List Outgoing) (b : BusState) → weight f (sent_all from packets b).store.kept ≤ weight f b.store.kept + leaving f b.generations from b.store.last packets
