use Rattle.sbp_world.proofs.of_lists.runs_come_to_rest.Goals as goal
use Rattle.sbp_world.proofs.Completing.RestRuns.{rest_law}

pub returns : goal.returns
returns c = rest_law
