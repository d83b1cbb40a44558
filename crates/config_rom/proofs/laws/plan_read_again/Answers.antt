use Rattle.config_rom.proofs.Made.{made-tree, made-read, made-unit}
use Rattle.config_rom.proofs.laws.plan_read_again.Goals as goal

pub returns : goal.returns
returns c = record { tree = made-tree; read = made-read; unit = made-unit }
