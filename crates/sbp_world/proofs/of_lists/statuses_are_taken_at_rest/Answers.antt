use Rattle.sbp_world.proofs.of_lists.statuses_are_taken_at_rest.Goals as goal
use Rattle.sbp_world.proofs.Completing.RestStatuses.{rest_statuses_law}

pub returns : goal.returns
returns c = rest_statuses_law
