use Rattle.std.specs.Prelude.{◌≡◌, take}
use Rattle.orb_list.specs.Table.{closed}
use Rattle.orb_list.proofs.Freeing.{all_done, done}
use Rattle.orb_list.proofs.slots.free_over.Given as goal

abbrev pub invariant-loop-number : goal.invariant-loop-number
invariant-loop-number l = record {
  slots : l.slots ≡ done l.list l.pinned l.fn.slots l.number;
  image : l.image ≡ closed (take l.number (all_done l.list l.pinned l.fn.slots)) l.fn.image;
}
