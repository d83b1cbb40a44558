use Rattle.bus_transactions.proofs.laws.rows_by_history.Goals as goal
use Rattle.bus_transactions.proofs.PacketLaws.{rows_always}

pub returns : goal.returns
returns c = rows_always
