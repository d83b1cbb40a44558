use Rattle.async_packet.proofs.RoundTrip.{canon_spells}
use Rattle.async_packet.proofs.writing.canon_spells.Goals as goal

pub returns : goal.returns
returns c = canon_spells
