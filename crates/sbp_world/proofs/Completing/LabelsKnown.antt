-- At each place of a run the labels of the target's layer to a node are those of the terms: as many are free.
use Rattle.sbp_world.proofs.Words.Std.{arith, ◌≡◌, ◌∙◌, refl, sym, ap, subst, ℕ, ◌^◌, ◌<◌, ◌≤◌, List, length}
use Rattle.sbp_world.proofs.Words.Wire.{Moment, Node, Terms, id_of, terms, topology_at}
use Rattle.sbp_world.proofs.Words.Wire.{id_for as wire_id}
use Rattle.sbp_world.proofs.Words.Target.{Disk}
use Rattle.sbp_world.proofs.Words.Laws.{id_for}
use Rattle.sbp_world.proofs.Words.World.{Stands, WorldState}
use Rattle.sbp_world.proofs.Agents.FreeLabels.{KnowsLabels, labels_at}
use Rattle.sbp_world.proofs.Agents.Management.Holding.{known_id, past_terms}
use Rattle.sbp_world.proofs.Agents.Management.Still.{hist}
use Rattle.sbp_world.proofs.Completing.LabelsPlaces.{IsHolding}
use Rattle.sbp_world.proofs.Wire.Bus.{holds}
use Rattle.sbp_world.proofs.Wire.Holding.{latest_small}

module _ {start : List Disk} {now : List Moment} (w : WorldState) (h : IsHolding start now w) (node : ℕ) (inside : node ≤ length w.initiators) where
  abbrev stands : Stands h.past w
  stands = h.holds.sound.stands

  abbrev there : List Moment
  there = hist h.past w

  wire_id_is : wire_id stands.wire 0 node ≡ id_for (terms there) 0 node
  wire_id_is = ap (λ g. (terms stands.wire.past).ids g node) (stands.is.sights 0 (omega arith)) ∙ (stands.is.known_ids 0 node (omega arith) inside ∙ sym (known_id w stands node inside))

  pub id_small : id_for (terms there) 0 node < 2 ^ 16
  id_small = subst (λ n. n < 2 ^ 16) (sym (known_id w stands node inside)) (latest_small (topology_at w.generations 0) node)

  node_is : w.target.layer.node ≡ id_of (topology_at w.generations 0) 0
  node_is =
      ap (λ (l : Node). l.node) (sym (stands.is.layers_are 0 (omega arith)))
      ∙ (((holds stands.wire stands.reached).nodes 0).id ∙ (ap (λ (x : Terms). x.ids (x.generation 0) 0) (past_terms w stands) ∙ known_id w stands 0 (omega arith)))

  pub labels_known : KnowsLabels (terms now) 0 node (id_for (terms now) 0 node) w.target.layer
  labels_known =
      subst (λ ms. KnowsLabels (terms ms) 0 node (id_for (terms ms) 0 node) w.target.layer) h.is
      (labels_at w stands 0 node (omega arith) inside w.target.layer refl (id_for (terms there) 0 node) wire_id_is (subst (λ n. n < 2 ^ 16) (sym node_is) (latest_small (topology_at w.generations 0) 0)) id_small)
