use Rattle.unordered_laws.proofs.Runs.{at_most_eight}
use Rattle.unordered_laws.proofs.laws.eight_are_worked_at_most.Goals as goal

pub returns : goal.returns
returns c = at_most_eight
