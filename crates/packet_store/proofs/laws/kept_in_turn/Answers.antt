use Rattle.packet_store.proofs.Calls.{risen}
use Rattle.packet_store.proofs.laws.kept_in_turn.Goals as goal

pub returns : goal.returns
returns c = risen
