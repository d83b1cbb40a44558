use Rattle.sbp_world.proofs.of_lists.writes_are_taken_at_rest.Goals as goal
use Rattle.sbp_world.proofs.Completing.RestRuns.{rest_served_law}

pub returns : goal.returns
returns c = rest_served_law
