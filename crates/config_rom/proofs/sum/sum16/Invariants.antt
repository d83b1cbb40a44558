use Rattle.std.proofs.Common.{◌≡◌, drop}
use Rattle.config_rom.specs.Sum.{register_after, quad_bits}
use Rattle.config_rom.proofs.sum.sum16.Given as goal

-- what the bits left make of the register is what all bits make of 0
abbrev pub invariant-loop-quad : goal.invariant-loop-quad
invariant-loop-quad l = register_after l.register (quad_bits (drop l.quad-index l.quads)) ≡ register_after 0 (quad_bits l.quads)
