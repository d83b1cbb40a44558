use Rattle.bus_transactions.proofs.laws.goes_by_moves.Goals as goal
use Rattle.bus_transactions.proofs.Reaches.{goes_on}

pub returns : goal.returns
returns c = goes_on
