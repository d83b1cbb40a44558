use Rattle.packet_store.proofs.Calls.{keeps_law}
use Rattle.packet_store.proofs.laws.keeps_flights.Goals as goal

pub returns : goal.returns
returns c = keeps_law
