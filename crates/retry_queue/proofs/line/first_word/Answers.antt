-- A blank ends the first word.
use Rattle.retry_queue.proofs.Words.{words_cut}
use Rattle.retry_queue.proofs.line.first_word.Goals as goal

pub returns-in-Some : goal.returns-in-Some
returns-in-Some c = words_cut c.args.line.now c.in-Some.at c.in-Some.ensures.place
