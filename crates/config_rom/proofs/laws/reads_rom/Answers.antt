use Rattle.config_rom.proofs.Readings.{reads-rom}
use Rattle.config_rom.proofs.laws.reads_rom.Goals as goal

pub returns : goal.returns
returns c = reads-rom
