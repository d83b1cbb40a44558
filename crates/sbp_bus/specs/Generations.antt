-- The generations of the bus, and the IDs of its nodes in them (IEEE 1394-1995, bus configuration). Node 0 is the target, node i + 1 is
-- initiator i.
use Rattle.std.specs.Prelude.{ℕ, zero, suc, ◌+◌, ◌%◌, ◌==◌, nat_lt, Bool, if◌then◌else◌, List, [], ◌∷◌, ◌++◌, position, replicate, slice_set, slice_index_or, Option, Some, None}
use Rattle.sbp_bus.specs.declared.generations.Topology.{Topology}

-- the latest generation, and the one that each node knows
pub record GenerationsState : Type 0 where
  pub latest : Topology
  pub seen : List Topology

-- the node ID of a physical ID on the local bus, 3FFh
abbrev pub local_node : ℕ → ℕ
local_node physical = 0xffc0 + physical % 64

-- a node with this physical ID has this node ID
abbrev pub is_at : ℕ → ℕ → Bool
is_at node physical = local_node physical == node

-- the physical IDs 0, 1 and so on
unfoldable pub first_ids : ℕ → List ℕ
first_ids zero = []
first_ids (suc n) = first_ids n ++ n ∷ []

abbrev pub first_topology : ℕ → Topology
first_topology nodes = record { generation = 0; ids = first_ids nodes }

-- At the start the generation is 0, the target has physical ID 0 and initiator i has i + 1.
abbrev pub new_generations : ℕ → GenerationsState
new_generations nodes = record { latest = first_topology nodes; seen = replicate nodes (first_topology nodes) }

abbrev pub no_topology : Topology
no_topology = record { generation = 0; ids = [] }

-- what a node knows
abbrev pub topology_at : GenerationsState → ℕ → Topology
topology_at generations node = slice_index_or generations.seen node no_topology

-- the ID of a node in a generation
abbrev pub id_of : Topology → ℕ → ℕ
id_of topology node = local_node (slice_index_or topology.ids node 0)

-- one of the five nodes that a bus has at most
abbrev pub one_of_five : Option ℕ → Option ℕ
one_of_five None = None
one_of_five (Some node) = if nat_lt node 5 then Some node else None

-- the node that has an ID in a generation
abbrev pub node_in : Topology → ℕ → Option ℕ
node_in topology id = one_of_five (position (is_at id) topology.ids)

-- the node that has an ID, as another node knows it
abbrev pub node_of : GenerationsState → ℕ → ℕ → Option ℕ
node_of generations viewer id = node_in (topology_at generations viewer) id

-- A bus reset: the next generation, with new physical IDs.
abbrev pub reset_step : List ℕ → GenerationsState → GenerationsState
reset_step ids generations =
    record generations { latest = record { generation = generations.latest.generation + 1; ids = ids } }

-- A node sees the latest generation.
abbrev pub see_step : ℕ → GenerationsState → GenerationsState
see_step node generations = record generations { seen = slice_set generations.seen node generations.latest }
