use Rattle.async_packet.proofs.RoundTrip.{canon_length}
use Rattle.async_packet.proofs.writing.canon_has_length.Goals as goal

pub returns : goal.returns
returns c = canon_length
