use Rattle.std.specs.Prelude.{◌≡◌, drop}
use Rattle.orb_list.specs.Table.{find_in}
use Rattle.orb_list.proofs.slots.find_in.Given as goal

abbrev pub invariant-loop-slot : goal.invariant-loop-slot
invariant-loop-slot l = find_in (drop l.slot-index l.slots) l.number ≡ find_in l.slots l.number
