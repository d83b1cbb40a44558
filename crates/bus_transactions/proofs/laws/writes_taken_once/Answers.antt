use Rattle.bus_transactions.proofs.laws.writes_taken_once.Goals as goal
use Rattle.bus_transactions.proofs.PacketLaws.{once_always}

pub returns : goal.returns
returns c = once_always
