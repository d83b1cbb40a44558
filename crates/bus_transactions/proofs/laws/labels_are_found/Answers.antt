use Rattle.bus_transactions.proofs.laws.labels_are_found.Goals as goal
use Rattle.bus_transactions.proofs.SentLaws.{labels_always}

pub returns : goal.returns
returns c = labels_always
