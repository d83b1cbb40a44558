use Rattle.label_table.proofs.Calls.{told_law}
use Rattle.label_table.proofs.law.transactions_are_told.Goals as goal

pub returns : goal.returns
returns g c = told_law _
