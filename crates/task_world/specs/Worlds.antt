-- What a world of the unordered unit holds, and a scene: such a world with the medium of its unit.
use Rattle.std.specs.Prelude.{ℕ, List, [], ◌∷◌}
use Rattle.rbc_disk.specs.Disk.{Disk}
use Rattle.rbc_disk.specs.Held.{Held, held}
use Rattle.task_target.specs.Nodes.{TaskNode}
use Rattle.sbp_world.specs.Worlds.{WorldState, Scene, begun as scene_begun, with_target}
use Rattle.task_world.specs.Seats.{seat}

-- The bus, its initiator and the notes as a world has them, in which the target is but the seat of the task node; and that node.
pub record TaskWorldState : Type 0 where
  pub world : WorldState
  pub node : TaskNode

-- that world with the medium of the unit and its count of faults, and the task node
pub record TaskScene : Type 0 where
  pub scene : Scene
  pub node : TaskNode

-- what one medium holds, with its count of faults
abbrev pub one_held : Disk → ℕ → Held
one_held disk count = held (disk ∷ []) (count ∷ [])

abbrev pub task_scene : TaskWorldState → Disk → ℕ → TaskScene
task_scene w disk count = record { scene = record { world = w.world; media = one_held disk count }; node = w.node }

abbrev pub world_of : TaskScene → TaskWorldState
world_of s = record { world = s.scene.world; node = s.node }

-- what changes the world alone
abbrev pub in_task_world : (WorldState → WorldState) → TaskWorldState → TaskWorldState
in_task_world step w = record w { world = step w.world }

-- the world with another task node
abbrev pub with_node : TaskNode → TaskWorldState → TaskWorldState
with_node node w = record { world = with_target (seat node) w.world; node = node }

-- what is done to the world and the medium, and not to the task node
abbrev pub in_scene : (Scene → Scene) → TaskScene → TaskScene
in_scene step s = record s { scene = step s.scene }

-- what is done to the world and the task node, and not to the medium
abbrev pub in_world : (TaskWorldState → TaskWorldState) → TaskScene → TaskScene
in_world step s = record { scene = record s.scene { world = (step (world_of s)).world }; node = (step (world_of s)).node }

-- a line begins without notes
abbrev pub begun : TaskScene → TaskScene
begun s = in_scene scene_begun s
