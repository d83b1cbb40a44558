use Rattle.bus_transactions.proofs.Bares.{takes_steps}
use Rattle.bus_transactions.proofs.laws.purposes_change_nothing.Goals as goal

pub returns : goal.returns
returns g c = takes_steps _
