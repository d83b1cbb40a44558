use Rattle.sbp_world.proofs.of_lists.pointers_of_rung_lists_are_taken_at_rest.Goals as goal
use Rattle.sbp_world.proofs.Completing.PresentProved.{rest_pointed_law}

pub returns : goal.returns
returns c = rest_pointed_law
