use Rattle.std.proofs.Common.{length}
use Rattle.std.specs.Prelude.{suc, ◌-◌}
use Rattle.packet_store.proofs.bags.note.Given as goal

abbrev pub decreases-loop-spots : goal.decreases-loop-spots
decreases-loop-spots l = suc l.key - length l.spots.items
