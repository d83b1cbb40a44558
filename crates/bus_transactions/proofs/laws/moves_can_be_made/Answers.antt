use Rattle.bus_transactions.proofs.laws.moves_can_be_made.Goals as goal
use Rattle.bus_transactions.proofs.Courses.{happens}

pub returns : goal.returns
returns c = happens
