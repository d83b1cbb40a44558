use Rattle.bus_transactions.proofs.laws.injected_response_closes.Goals as goal
use Rattle.bus_transactions.proofs.Courses.{closes}

pub returns : goal.returns
returns c = closes
