use Rattle.std.proofs.Common.{◌≡◌, drop}
use Rattle.config_rom.specs.Unit.{directories, first_unit}
use Rattle.config_rom.proofs.unit.first_unit.Given as goal

-- the first unit is among the directories left
abbrev pub invariant-loop-block : goal.invariant-loop-block
invariant-loop-block l = first_unit l.root (directories (drop l.block-index l.blocks) l.rest) ≡ first_unit l.root (directories l.blocks l.entries)
