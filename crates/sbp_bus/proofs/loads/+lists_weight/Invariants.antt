use Rattle.std.specs.Prelude.{length}
use Rattle.sbp_bus.proofs.loads.+lists_weight.Given as goal

abbrev pub decreases-lists_weight : goal.decreases-lists_weight
decreases-lists_weight l = length l.each.now
