-- A blank has a word behind it, be it an empty one.
use Rattle.retry_queue.proofs.Words.{pumps_alone}
use Rattle.retry_queue.proofs.line.pumping.Goals as goal

pub returns-in-Some : goal.returns-in-Some
returns-in-Some c = pumps_alone c.args.rest _ c.in-Some.is
