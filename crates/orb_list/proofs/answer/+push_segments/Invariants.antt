use Rattle.std.specs.Prelude.{length}
use Rattle.orb_list.proofs.answer.+push_segments.Given as goal

abbrev pub decreases-push_segments : goal.decreases-push_segments
decreases-push_segments l = length l.segments.now
