-- What holds of a task world behind every line of every run.
use Rattle.std.specs.Prelude.{◌≡◌, length}
use Rattle.sbp_world.specs.Runs.{Run}
use Rattle.sbp_world.specs.Worlds.{WorldState}
use Rattle.task_target.specs.Nodes.{TaskNode}
use Rattle.task_world.specs.Runs.{TaskRuns}
use Rattle.task_world.specs.Seats.{seat}
use Rattle.task_world.specs.Worlds.{TaskScene}

-- Its target is the seat of the task node, and it has one initiator.
pub record IsSeated (w : WorldState) (node : TaskNode) : Type 0 where
  pub target : w.target ≡ seat node
  pub one : length w.initiators ≡ 1

abbrev pub SeatLaw : Type 0
SeatLaw = (run : Run) (s : TaskScene) → TaskRuns run s → IsSeated s.scene.world s.node
