use Rattle.std.specs.Prelude.{◌≡◌, replicate}
use Rattle.bus_memory.specs.Memory.{empty_slot}
use Rattle.bus_memory.proofs.image.new_slots.Given as goal

abbrev pub invariant-loop : goal.invariant-loop
invariant-loop l = l.slots.items ≡ replicate l.counter empty_slot
