use Rattle.bus_transactions.proofs.laws.packets_by_history.Goals as goal
use Rattle.bus_transactions.proofs.PacketLaws.{packets_always}

pub returns : goal.returns
returns c = packets_always
