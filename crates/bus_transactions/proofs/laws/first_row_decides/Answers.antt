use Rattle.bus_transactions.proofs.laws.first_row_decides.Goals as goal
use Rattle.bus_transactions.proofs.JudgementLaws.{judged_always}

pub returns : goal.returns
returns c = judged_always
