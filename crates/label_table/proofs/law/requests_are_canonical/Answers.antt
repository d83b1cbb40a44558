use Rattle.label_table.proofs.Answered.{asked_law}
use Rattle.label_table.proofs.law.requests_are_canonical.Goals as goal

pub returns : goal.returns
returns g c = asked_law _
