use Rattle.sbp_world.proofs.Counting.CompletionRuns.{completion_law}
use Rattle.sbp_world.proofs.of_lists.deliveries_are_bounded.Goals as goal

pub returns : goal.returns
returns c = completion_law
