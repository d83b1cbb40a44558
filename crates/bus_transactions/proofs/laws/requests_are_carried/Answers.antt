use Rattle.bus_transactions.proofs.laws.requests_are_carried.Goals as goal
use Rattle.bus_transactions.proofs.Carried.{under_way_always}

pub returns : goal.returns
returns c = under_way_always
