use Rattle.std.specs.Prelude.{◌≡◌, ◌++◌, map, take, drop}
use Rattle.orb_list.specs.Table.{rested}
use Rattle.orb_list.proofs.slots.rest_all.Given as goal

abbrev pub invariant-loop-slot : goal.invariant-loop-slot
invariant-loop-slot l = l.slots ≡ map rested (take l.slot-index l.fn.slots) ++ drop l.slot-index l.fn.slots
