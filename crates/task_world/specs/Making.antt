-- How a run of `tasks` begins.
use Rattle.std.specs.Prelude.{true}
use Rattle.rbc_disk.specs.Held.{Held}
use Rattle.sbp_world.specs.Making.{new_world}
use Rattle.sbp_world.specs.Runs as worlds
use Rattle.task_target.specs.Nodes.{new_node}
use Rattle.task_world.specs.Worlds.{TaskScene, TaskWorldState}

-- A run begins as `begin 1 ready` says, over one unit.
abbrev pub new_task_world : TaskWorldState
new_task_world = record { world = new_world 1 true 1; node = new_node }

abbrev pub first_scene : Held → TaskScene
first_scene start = record { scene = worlds.first_scene 1 true 1 start; node = new_node }
