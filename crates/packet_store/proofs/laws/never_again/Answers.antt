use Rattle.packet_store.proofs.Calls.{gone_law}
use Rattle.packet_store.proofs.laws.never_again.Goals as goal

pub returns : goal.returns
returns c = gone_law
