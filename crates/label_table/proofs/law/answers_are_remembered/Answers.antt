use Rattle.label_table.proofs.Answered.{remembered_law}
use Rattle.label_table.proofs.law.answers_are_remembered.Goals as goal

pub returns : goal.returns
returns g c = remembered_law _
