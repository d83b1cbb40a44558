use Rattle.sbp_world.proofs.of_lists.rung_orbs_are_linked.Goals as goal
use Rattle.sbp_world.proofs.Completing.BellsProved.{rung_linked_law}

pub returns : goal.returns
returns c = rung_linked_law
