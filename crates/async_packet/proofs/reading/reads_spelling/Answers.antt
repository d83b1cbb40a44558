use Rattle.async_packet.proofs.Spelled.{reads_spelling}
use Rattle.async_packet.proofs.reading.reads_spelling.Goals as goal

pub returns : goal.returns
returns c = reads_spelling
