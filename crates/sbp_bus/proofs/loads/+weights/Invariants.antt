use Rattle.std.specs.Prelude.{length}
use Rattle.sbp_bus.proofs.loads.+weights.Given as goal

abbrev pub decreases-weights : goal.decreases-weights
decreases-weights l = length l.orbs.now
