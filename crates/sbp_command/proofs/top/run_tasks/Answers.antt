-- The script is run as its lines were served.
use Rattle.sbp_command.proofs.TaskEndings.{task_ends}
use Rattle.sbp_command.proofs.top.run_tasks.Goals as goal

pub returns : goal.returns
returns g c = rw c.status_of.ensures (task_ends c.serve_tasks.result _ _ c.serve_tasks.ensures)
