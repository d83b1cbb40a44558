use Rattle.packet_store.proofs.Calls.{closed_law}
use Rattle.packet_store.proofs.laws.closed_by_request.Goals as goal

pub returns : goal.returns
returns c = closed_law
