use Rattle.packet_store.proofs.Calls.{serial_law}
use Rattle.packet_store.proofs.laws.serials_in_turn.Goals as goal

pub returns : goal.returns
returns c = serial_law
