use Rattle.sbp_world.proofs.of_lists.rung_orbs_have_their_write.Goals as goal
use Rattle.sbp_world.proofs.Completing.BellsProved.{belled_law}

pub returns : goal.returns
returns c = belled_law
