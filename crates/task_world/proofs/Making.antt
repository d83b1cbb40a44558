-- A new task node, as the target of a world, is a new target of one unit with one login.
use Rattle.std.proofs.Common.{◌≡◌, ◌∙◌, refl, ap, ℕ, zero, suc, List, [], ◌∷◌, map, replicate, true, Option, None}
use Rattle.label_table.specs.Filter.{new_filter}
use Rattle.label_table.specs.Peers.{PeerPlace, no_peer}
use Rattle.label_table.specs.Table.{new_table}
use Rattle.sbp_bus.specs.Buses.{BusState, new_bus}
use Rattle.sbp_initiator.specs.declared.state.InitiatorState.{InitiatorState}
use Rattle.sbp_initiator.specs.Initiators.{new_state}
use Rattle.sbp_target.specs.Nodes.{NodeState}
use Rattle.sbp_target.specs.declared.purpose.Purpose.{Purpose}
use Rattle.sbp_target.specs.Receiving as ordered
use Rattle.task_target.specs.declared.purpose.TaskPurpose.{TaskPurpose}
use Rattle.task_target.specs.Nodes.{new_node}
use Rattle.task_target.specs.Targets.{TargetState, new_target}
use Rattle.sbp_world.specs.Making.{new_initiators, new_world, notes_begin}
use Rattle.task_world.specs.Making.{new_task_world}
use Rattle.task_world.specs.Seats.{as_agent, as_agents, seat}
use Rattle.task_world.specs.Worlds.{TaskWorldState}

none_agents : (n : ℕ) → map as_agent (replicate n None) ≡ replicate n None
none_agents zero = refl
none_agents (suc n) = ap (λ (xs : List (Option Purpose)). None ∷ xs) (none_agents n)

no_agents : as_agents no_peer ≡ no_peer
no_agents = ap (λ (xs : List (Option Purpose)). record { peer = None; table = new_table; purposes = xs }) (none_agents 64)

all_agents : (n : ℕ) → map as_agents (replicate n no_peer) ≡ replicate n no_peer
all_agents zero = refl
all_agents (suc n) = ap (λ (p : PeerPlace Purpose). p ∷ map as_agents (replicate n no_peer)) no_agents ∙ ap (λ (ps : List (PeerPlace Purpose)). no_peer ∷ ps) (all_agents n)

pub new_seat : seat new_node ≡ ordered.new_node 1 1
new_seat = ap (λ (ps : List (PeerPlace Purpose)). record (ordered.new_node 1 1) { layer = record { generation = 0; node = 0xffc0; calls = 0; peers = ps; filter = new_filter } }) (all_agents 5)

-- ---- the parts of a new world

abbrev joined : BusState → TargetState → InitiatorState → TaskWorldState
joined bus target initiator = record {
  world = record {
    generations = bus.generations;
    target = seat target.node;
    initiators = initiator ∷ [];
    store = bus.store;
    requests = bus.requests;
    places = bus.places;
    loads = bus.loads;
    fresh = bus.fresh;
  };
  node = target.node;
}

seated : joined (new_bus 1 1 (notes_begin 1 true)) new_target (new_state 0 true) ≡ new_task_world
unfolding new_world new_initiators
seated = ap (λ (n : NodeState). record { world = record (new_world 1 true 1) { target = n }; node = new_node }) new_seat

pub new_parts : (bus : BusState) (target : TargetState) (initiator : InitiatorState) → bus ≡ new_bus 1 1 (notes_begin 1 true) → target ≡ new_target → initiator ≡ new_state 0 true → joined bus target initiator ≡ new_task_world
new_parts bus target initiator b t i =
    ap (λ (x : BusState). joined x target initiator) b
    ∙ ap (λ (x : TargetState). joined (new_bus 1 1 (notes_begin 1 true)) x initiator) t
    ∙ ap (λ (x : InitiatorState). joined (new_bus 1 1 (notes_begin 1 true)) new_target x) i
    ∙ seated
