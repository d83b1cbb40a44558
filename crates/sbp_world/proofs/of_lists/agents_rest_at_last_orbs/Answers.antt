use Rattle.sbp_world.proofs.of_lists.agents_rest_at_last_orbs.Goals as goal
use Rattle.sbp_world.proofs.Completing.RungRuns.{rests_last_law}

pub returns : goal.returns
returns c = rests_last_law
