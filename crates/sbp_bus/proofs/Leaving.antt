-- What is in flight rises by the weight of the packets that leave, at most.
use Rattle.std.specs.Prelude.{◌≡◌, ℕ, ◌+◌, ◌≤◌, false, List, [], ◌∷◌, Option, Some, None, refl}
use Rattle.std.proofs.Common.{arith, ap}
use Rattle.async_packet.specs.Labels.{LabelParts}
use Rattle.packet_store.specs.declared.sent.Sent.{Sent}
use Rattle.packet_store.specs.Stored.{Stored}
use Rattle.packet_store.specs.Weights.{weight}
use Rattle.packet_store.proofs.Weights.{weight_law}
use Rattle.sbp_journal.specs.declared.outbox.Outgoing.{Outgoing}
use Rattle.sbp_bus.specs.Buses.{BusState}
use Rattle.sbp_bus.specs.Generations.{GenerationsState, node_of, topology_at}
use Rattle.sbp_bus.specs.Sending.{asked, packet_of, posted, sent, sent_all, sent_to}
use Rattle.sbp_bus.specs.Weights.{leaving, leaving_to, last_after, LeavingLaw}

-- that a request is under way changes neither the packets nor what nodes know
asked_store : (serial to node peer : ℕ) (label : Option LabelParts) (b : BusState) → (asked serial to node peer label b).store ≡ b.store
asked_store serial to node peer None b = refl
asked_store serial to node peer (Some label) b = refl

asked_known : (serial to node peer : ℕ) (label : Option LabelParts) (b : BusState) → (asked serial to node peer label b).generations ≡ b.generations
asked_known serial to node peer None b = refl
asked_known serial to node peer (Some label) b = refl

to_known : (to : Option ℕ) (from : ℕ) (packet : Outgoing) (b : BusState) → (sent_to to from packet b).generations ≡ b.generations
to_known None from packet b = refl
to_known (Some to) from packet b = asked_known (b.store.last + 1) to from packet.to packet.label (posted from to false packet.bytes b)

to_last : (to : Option ℕ) (from : ℕ) (packet : Outgoing) (b : BusState) → (sent_to to from packet b).store.last ≡ last_after to b.store.last
to_last None from packet b = refl
to_last (Some to) from packet b =
    ap (λ (s : Stored). s.last) (asked_store (b.store.last + 1) to from packet.to packet.label (posted from to false packet.bytes b))

to_most : (f : ℕ → Sent → ℕ) (to : Option ℕ) (from : ℕ) (packet : Outgoing) (b : BusState) → weight f (sent_to to from packet b).store.kept ≤ weight f b.store.kept + leaving_to to f b.generations from b.store.last packet.bytes
to_most f None from packet b = omega arith
to_most f (Some to) from packet b =
    let sends = (weight_law f b.store).sends (packet_of (topology_at b.generations from).generation from to false packet.bytes) in
    let same = ap (λ (s : Stored). weight f s.kept) (asked_store (b.store.last + 1) to from packet.to packet.label (posted from to false packet.bytes b)) in
    omega (arith, sends, same)

pub leaving_law : LeavingLaw
unfolding sent_all sent
leaving_law f from [] b = omega arith
leaving_law f from (packet ∷ later) b =
    let to = node_of b.generations from packet.to in
    let v = sent_to to from packet b in
    let one = to_most f to from packet b in
    let rest = leaving_law f from later v in
    let known = ap (λ (g : GenerationsState). leaving f g from v.store.last later) (to_known to from packet b) in
    let last = ap (λ (n : ℕ). leaving f b.generations from n later) (to_last to from packet b) in
    omega (arith, one, rest, known, last)
