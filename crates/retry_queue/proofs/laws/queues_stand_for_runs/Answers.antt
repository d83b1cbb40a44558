-- The run of a queue is that of its script.
use Rattle.retry_queue.proofs.StandingRuns.{stands_for_runs}
use Rattle.retry_queue.proofs.laws.queues_stand_for_runs.Goals as goal

pub returns : goal.returns
returns c = stands_for_runs
