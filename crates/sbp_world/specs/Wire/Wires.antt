-- The wire that a world stands for: its store, the transaction layers of its nodes without what their transactions are for, its bus
-- generation with the IDs, and its history, which is that of its run. Nodes are numbered as in notes.
use Rattle.std.specs.Prelude.{◌≡◌, ◌≤◌, ℕ, zero, suc, false, List, length, ◌++◌, map, slice_index_or, Option, None}
use Rattle.bus_transactions.specs.Bare.{bare}
use Rattle.bus_transactions.specs.Reached.{Reached}
use Rattle.bus_transactions.specs.Wire.{Due, Node, Wire}
use Rattle.label_table.specs.Layer.{Layer}
use Rattle.sbp_initiator.specs.declared.state.InitiatorState.{InitiatorState}
use Rattle.sbp_initiator.specs.Initiators.{new_state}
use Rattle.sbp_journal.specs.Run.{Moment, said}
use Rattle.sbp_journal.specs.Wire.{terms}
use Rattle.sbp_target.specs.declared.purpose.Purpose.{Purpose}
use Rattle.sbp_bus.specs.Generations.{id_of, topology_at}
use Rattle.sbp_world.specs.Worlds.{WorldState}
use Rattle.sbp_world.specs.Wire.Knows.{AreEntered, Knows}

-- the layer of a node
abbrev pub layer_in : Layer Purpose → List InitiatorState → ℕ → Node
layer_in target initiators zero = bare target
layer_in target initiators (suc i) = bare (slice_index_or initiators i (new_state 0 false)).layer

abbrev pub layers_of : WorldState → ℕ → Node
layers_of w = layer_in w.target.layer w.initiators

-- What has happened before the notes of the world's present line stands in `past`. Each node is in the generation that the bus tells the
-- world of it, and knows the IDs that the history gives to the nodes in that generation. The target injects nothing. Of each
-- transaction that waits at its requester the world has the request. The nodes have these layers: those of the world,
-- but for a node whose packets are still to leave; and a request may have to be answered first.
pub record IsWireAt (past : List Moment) (layers : ℕ → Node) (due : Option Due) (w : WorldState) (wire : Wire) : Type 0 where
  pub store_is : wire.store ≡ w.store
  pub bus_is : wire.bus ≡ w.generations.latest.generation
  pub ids_are : (node : ℕ) → node ≤ length w.initiators → wire.ids node ≡ id_of w.generations.latest node
  pub layers_are : (node : ℕ) → node ≤ length w.initiators → wire.layer node ≡ layers node
  pub due_is : wire.due ≡ due
  pub past_is : wire.past ≡ map said w.fresh ++ past
  pub few : length w.initiators ≤ 4
  pub seen : length w.generations.seen ≡ suc (length w.initiators)
  pub size : length w.generations.latest.ids ≡ suc (length w.initiators)
  pub sizes : (node : ℕ) → node ≤ length w.initiators → length (topology_at w.generations node).ids ≡ suc (length w.initiators)
  pub sights : (node : ℕ) → node ≤ length w.initiators → (wire.layer node).generation ≡ (topology_at w.generations node).generation
  pub known_ids : (node peer : ℕ) → node ≤ length w.initiators → peer ≤ length w.initiators → (terms wire.past).ids (topology_at w.generations node).generation peer ≡ id_of (topology_at w.generations node) peer
  pub knows : Knows w.requests (length w.initiators) (terms wire.past)
  pub entered : AreEntered w.requests (length w.initiators) wire.layer (terms wire.past).ids
  pub fair : (terms wire.past).injects 0 ≡ false

-- A world stands for a wire that moves lead to, with these layers of its nodes, and this request to be answered.
pub record StandsAt (past : List Moment) (layers : ℕ → Node) (due : Option Due) (w : WorldState) : Type 0 where
  pub wire : Wire
  pub reached : Reached wire
  pub is : IsWireAt past layers due w wire

abbrev pub Stands : List Moment → WorldState → Type 0
Stands past w = StandsAt past (layers_of w) None w
