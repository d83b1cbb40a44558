use Rattle.config_rom.proofs.Units.{unit-is-first}
use Rattle.config_rom.proofs.laws.first_unit_found.Goals as goal

pub returns : goal.returns
returns c = unit-is-first
