use Rattle.std.proofs.Common.{◌≡◌, ◌-◌, length}
use Rattle.config_rom.specs.Reading.{turns}
use Rattle.config_rom.proofs.rom.Rom.read_blocks.Given as goal

-- the turns left are those of the whole
abbrev pub invariant-loop-at : goal.invariant-loop-at
invariant-loop-at l = turns l.quads (length l.quads - l.at) l.at l.self ≡ turns l.quads (length l.quads - l.root) l.root l.fn.self
