use Rattle.std.specs.Prelude.{length}
use Rattle.sbp_bus.proofs.loads.+chunks_of.Given as goal

abbrev pub decreases-chunks_of : goal.decreases-chunks_of
decreases-chunks_of l = length l.segments.now
