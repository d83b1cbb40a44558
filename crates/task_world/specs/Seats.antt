-- The task node as the target of a world: what a world sees of it is its transaction layer.
use Rattle.std.specs.Prelude.{map, Option, Some, None}
use Rattle.label_table.specs.Layer.{Layer}
use Rattle.label_table.specs.Peers.{PeerPlace}
use Rattle.sbp_target.specs.declared.purpose.Purpose.{Purpose}
use Rattle.sbp_target.specs.declared.purpose.Purpose.TheVariants as purposes
use Rattle.sbp_target.specs.Nodes.{NodeState}
use Rattle.sbp_target.specs.Receiving.{new_node}
use Rattle.task_target.specs.declared.purpose.TaskPurpose.{TaskPurpose}
use Rattle.task_target.specs.Nodes.{TaskNode}

-- each transaction is for the agent of place 0
abbrev pub as_agent : Option TaskPurpose → Option Purpose
as_agent None = None
as_agent (Some purpose) = Some (purposes.Agent 0)

abbrev pub as_agents : PeerPlace TaskPurpose → PeerPlace Purpose
as_agents place = record { peer = place.peer; table = place.table; purposes = map as_agent place.purposes }

abbrev pub retag : Layer TaskPurpose → Layer Purpose
retag layer = record {
  generation = layer.generation;
  node = layer.node;
  calls = layer.calls;
  peers = map as_agents layer.peers;
  filter = layer.filter;
}

-- a new target of one unit and one login, but with the transaction layer of the task node
abbrev pub seat : TaskNode → NodeState
seat node = record (new_node 1 1) { layer = retag node.layer }
