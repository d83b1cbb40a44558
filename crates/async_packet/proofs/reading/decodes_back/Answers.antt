use Rattle.async_packet.specs.Canon.{canon}
use Rattle.async_packet.proofs.RoundTrip.{canon_spells}
use Rattle.async_packet.proofs.Spelled.{reading_spelled}
use Rattle.async_packet.proofs.reading.decodes_back.Goals as goal

pub returns : goal.returns
returns c = λ p valid. reading_spelled (canon p) p (canon_spells p valid)
