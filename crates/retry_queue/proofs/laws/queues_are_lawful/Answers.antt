-- The parts of the queue law together.
use Rattle.retry_queue.proofs.Written.{queues_are_lawful}
use Rattle.retry_queue.proofs.laws.queues_are_lawful.Goals as goal

pub returns : goal.returns
returns c = queues_are_lawful
