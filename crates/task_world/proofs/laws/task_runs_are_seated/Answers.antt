use Rattle.task_world.proofs.Seated.{seat_law}
use Rattle.task_world.proofs.laws.task_runs_are_seated.Goals as goal

pub returns : goal.returns
returns c = seat_law
