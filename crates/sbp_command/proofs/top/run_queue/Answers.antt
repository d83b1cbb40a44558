-- The script is run as its lines were served; every run of a queue keeps its laws.
use Rattle.sbp_command.proofs.QueueEndings.{queue_ends}
use Rattle.sbp_command.proofs.top.run_queue.Goals as goal

pub returns : goal.returns
returns g c =
    rw c.status_of.ensures (queue_ends (record { lawful = c.queue_runs_are_lawful.ensures; leaves = c.queue_runs_leave_their_medium.ensures }) c.serve_queue.result _ _ c.serve_queue.ensures)
