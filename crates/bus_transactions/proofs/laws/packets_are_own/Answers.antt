use Rattle.bus_transactions.proofs.laws.packets_are_own.Goals as goal
use Rattle.bus_transactions.proofs.SentLaws.{sent_always}

pub returns : goal.returns
returns c = sent_always
