use Rattle.std.proofs.Common.{◌≡◌, ◌-◌}
use Rattle.config_rom.specs.Sum.{register_after, low_bits}
use Rattle.config_rom.proofs.sum.with_quad.Given as goal

-- what the bits left make of the register is what all 32 make of the first one
abbrev pub invariant-loop-place : goal.invariant-loop-place
invariant-loop-place l = register_after l.register (low_bits (32 - l.place) l.quad) ≡ register_after l.fn.register (low_bits 32 l.quad)
