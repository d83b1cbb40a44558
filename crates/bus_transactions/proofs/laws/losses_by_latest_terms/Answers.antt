use Rattle.bus_transactions.proofs.laws.losses_by_latest_terms.Goals as goal
use Rattle.bus_transactions.proofs.Latest.{latest_always}

pub returns : goal.returns
returns c = latest_always
