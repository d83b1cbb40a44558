use Rattle.bus_transactions.proofs.laws.answered_next.Goals as goal
use Rattle.bus_transactions.proofs.AnswerLaws.{answers_always}

pub returns : goal.returns
returns c = answers_always
