use Rattle.std.specs.Prelude.{◌≡◌, take}
use Rattle.orb_layout.specs.Pointers.{quad_bytes}
use Rattle.target_base.proofs.beginning.quad_bytes.Given as goal

abbrev pub invariant-loop-quad : goal.invariant-loop-quad
invariant-loop-quad l = l.bytes.items ≡ quad_bytes (take l.quad-index l.quads)
