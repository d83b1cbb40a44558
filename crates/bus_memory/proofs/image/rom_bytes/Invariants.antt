use Rattle.std.specs.Prelude.{◌≡◌, take}
use Rattle.bus_memory.specs.Memory.{rom_bytes}
use Rattle.bus_memory.proofs.image.rom_bytes.Given as goal

abbrev pub invariant-loop-quad : goal.invariant-loop-quad
invariant-loop-quad l = l.bytes.items ≡ rom_bytes (take l.quad-index l.quads)
