use Rattle.sbp_world.proofs.of_lists.null_pointers_are_of_last_orbs.Goals as goal
use Rattle.sbp_world.proofs.Completing.Nulls.{nulls_law}

pub returns : goal.returns
returns c = nulls_law
