use Rattle.std.specs.Prelude.{◌≡◌, take}
use Rattle.orb_list.specs.Table.{closed}
use Rattle.orb_list.proofs.slots.close.Given as goal

abbrev pub invariant-loop-number : goal.invariant-loop-number
invariant-loop-number l = l.image ≡ closed (take l.number l.slots) l.fn.image
