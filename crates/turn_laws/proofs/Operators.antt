-- The initiator of a management operation, by the ID of its node as the target knows the nodes: the bus and the laws name it alike; and a request that the target takes is one's.
use Rattle.std.proofs.Common.{arith, ◌≡◌, ◌∙◌, refl, sym, ap, ℕ, zero, suc, ◌+◌, ◌-◌, ◌<◌, ◌≤◌, List, length, Option, Some, None, Ok}
use Rattle.async_packet.specs.Packet.{Packet, header_in}
use Rattle.async_packet.specs.Reading.{reading}
use Rattle.label_table.specs.Layer.{Layer, judging_step, of_request}
use Rattle.mgmt_agent.specs.Machine.{source_in}
use Rattle.mgmt_agent.specs.declared.operation.Operation.{Operation}
use Rattle.packet_store.specs.Kept.{found_sent}
use Rattle.packet_store.specs.declared.sent.Sent.{Sent}
use Rattle.rbc_disk.specs.Disk.{Disk}
use Rattle.sbp_bus.specs.Generations.{node_of}
use Rattle.sbp_bus.specs.Telling.{initiator_by}
use Rattle.sbp_bus.specs.Telling as bus
use Rattle.sbp_journal.specs.Run.{Moment}
use Rattle.sbp_journal.specs.Wire.{Terms, terms}
use Rattle.sbp_laws.specs.Management.{operator, source_node}
use Rattle.sbp_laws.specs.Packets.{id_for, sender_in}
use Rattle.sbp_laws.specs.Targets.{initiator_with}
use Rattle.sbp_target.specs.declared.purpose.Purpose.{Purpose}
use Rattle.sbp_world.specs.Agents.Holders.{IsOf}
use Rattle.sbp_world.specs.Worlds.{Scene, WorldState}
use Rattle.sbp_world.proofs.Agents.Holders.{finds}
use Rattle.sbp_world.proofs.Agents.Management.Hearing.{request_current}
use Rattle.sbp_world.proofs.Agents.Management.Holding.{is_of, known_id, ours, same_id, was_sent}
use Rattle.sbp_world.proofs.Agents.Management.Sights.{ages}
use Rattle.sbp_world.proofs.Agents.Management.Still.{hist}
use Rattle.sbp_world.proofs.Wire.Found.{node_found}
use Rattle.turn_laws.proofs.Places.{Place}

-- of an operation under way
pub operator_is : (wire : Terms) (operation : Option Operation) (source : ℕ) → source_in operation ≡ Some source → operator wire operation ≡ initiator_with wire source
operator_is wire None source e = absurd (let no : None ≡ Some source = e in cc)
operator_is wire (Some own) source e = ap (initiator_with wire) (let z : own.source ≡ source = cc in z)

module _ (units ready : ℕ) (has : 0 < units) (start : List Disk) (past : List Moment) (s : Scene) (here : Place units ready start past s) where
  abbrev w : WorldState
  w = s.world

  abbrev wire : Terms
  wire = terms (hist past w)

  abbrev pub IsOperator : (i source : ℕ) → Type 0
  IsOperator i source = IsOf wire (length w.initiators) i source

  -- its node
  pub operator_node : (i source : ℕ) → IsOperator i source → node_of w.generations 0 source ≡ Some (suc i)
  operator_node i source of =
      let small = of.small in
      let next : i + 1 ≡ suc i = omega arith in
      let there : suc i ≤ length w.initiators = omega (arith, small) in
      let known = sym (known_id w here.holds.sound.stands (suc i) there) ∙ ap (λ n. id_for wire 0 n) (sym next) ∙ of.node_is in
      node_found w here.holds.sound.stands 0 (omega arith) source (record { node = suc i; there = there; id_is = known })

  pub bus_names : (i source : ℕ) → IsOperator i source → bus.initiator_of w.generations source ≡ i
  bus_names i source of = ap initiator_by (operator_node i source of) ∙ (let z : suc i - 1 ≡ i = omega arith in z)

  pub laws_name : (i source : ℕ) → IsOperator i source → initiator_with wire source ≡ i
  laws_name i source of =
      let small = of.small in
      let few = here.holds.sound.stands.is.few in
      finds 4 0 i wire source (λ m f. let z = same_id w here.holds.sound.stands (m + 1) (i + 1) (f ∙ sym of.node_is) in omega (arith, z)) of.node_is (omega arith) (omega (arith, few, small))

  -- ---- who sent a request that the target takes
  module _ (serial : ℕ) (one : Sent) (found : found_sent serial w.store.kept ≡ Some one) (zero_to : one.to ≡ 0) (p : Packet) (read : reading one.bytes ≡ Ok p) (layer : Layer Purpose) (e : judging_step w.target.layer one.generation one.bytes ≡ (of_request p, layer)) where
    generation_is : one.generation ≡ wire.generation 0
    generation_is = request_current w.target.layer layer one.generation one.bytes p e ∙ sym (ages units ready has start w here.holds).same

    sender_id : id_for wire 0 one.from ≡ (header_in p).source
    sender_id = ap (λ g. wire.ids g one.from) (sym generation_is) ∙ sym ((is_of w here.holds.sound.stands serial one found).source p read)

    -- the laws read its ID so
    pub source_is : id_for wire 0 (source_node (sender_in (wire.sent serial))) ≡ (header_in p).source
    source_is = ap (λ so. id_for wire 0 (source_node (sender_in so))) (was_sent w here.holds.sound.stands serial one found) ∙ sender_id

    pub sender_is : (i : ℕ) × IsOperator i (header_in p).source
    sender_is = by one.from refl
      where
        by : (from : ℕ) → one.from ≡ from → (i : ℕ) × IsOperator i (header_in p).source
        by zero f = absurd (here.held.leaves serial one found f zero_to)
        by (suc i) f =
            let inside = (ours w here.holds.sound.stands serial one found).from in
            let next : i + 1 ≡ suc i = omega arith in
            (i, record { small = omega (arith, f, inside); node_is = ap (λ n. id_for wire 0 n) next ∙ ap (λ n. id_for wire 0 n) (sym f) ∙ sender_id })
