use Rattle.packet_store.proofs.Calls.{whole_law}
use Rattle.packet_store.proofs.laws.kept_whole.Goals as goal

pub returns : goal.returns
returns c = whole_law
