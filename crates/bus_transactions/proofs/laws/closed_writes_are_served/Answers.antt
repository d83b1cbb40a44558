use Rattle.bus_transactions.proofs.laws.closed_writes_are_served.Goals as goal
use Rattle.bus_transactions.proofs.PacketLaws.{served_always}

pub returns : goal.returns
returns c = served_always
