use Rattle.sbp_world.proofs.of_lists.null_pointers_are_of_last_orbs_then.Goals as goal
use Rattle.sbp_world.proofs.Completing.Nulls.{nulls_then_law}

pub returns : goal.returns
returns c = nulls_then_law
