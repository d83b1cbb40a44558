use Rattle.bus_transactions.proofs.laws.nothing_waits.Goals as goal
use Rattle.bus_transactions.proofs.Carried.{quiet_always}

pub returns : goal.returns
returns c = quiet_always
