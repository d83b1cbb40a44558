use Rattle.bus_transactions.proofs.laws.no_label_rests.Goals as goal
use Rattle.bus_transactions.proofs.Carried.{no_rest_always}

pub returns : goal.returns
returns c = no_rest_always
