-- What always holds of an agent, by its phase, holds of the agents of a target after each of its calls (NCITS 325-1998, command block agents).
use Rattle.std.specs.Prelude.{ℕ, List, Option}
use Rattle.label_table.specs.Layer.{judging_step}
use Rattle.rbc_disk.specs.Disk.{Disk}
use Rattle.rbc_disk.specs.Runs.{Told}
use Rattle.command_agent.specs.Machine as machines
use Rattle.sbp_target.specs.Calls.{Call, alone, receives}
use Rattle.sbp_target.specs.Nodes.{NodeState, desk_at}
use Rattle.sbp_target.specs.Receiving.{TellsIn, new_node, with_layer}
use Rattle.sbp_target.specs.RequestsLeft.{bare, delivered}

abbrev pub AgentsAreSound : NodeState → Type 0
AgentsAreSound node = (place : ℕ) → machines.IsSound (desk_at node place).agent

abbrev pub IsNoDelivery : Call → Type 0
IsNoDelivery (receives told disks generation bytes) = ⊥
IsNoDelivery call = Unit {0}

-- behind a delivery, where a run told what a run of its command may tell, and behind each other call; and of a new target
pub record CallsKeepSound : Type 0 where
  pub deliveries : (told : Option Told) (disks : List Disk) (generation : ℕ) (bytes : List ℕ) (node : NodeState) (before now : List ℕ) → AgentsAreSound node →
      (let found = judging_step node.layer generation bytes in TellsIn told found.0 (with_layer found.1 (bare node disks)) before now) → AgentsAreSound (delivered told disks generation bytes node).node
  pub others : (call : Call) (node : NodeState) → IsNoDelivery call → AgentsAreSound node → AgentsAreSound (alone call node).node
  pub new : (units ready : ℕ) → AgentsAreSound (new_node units ready)
