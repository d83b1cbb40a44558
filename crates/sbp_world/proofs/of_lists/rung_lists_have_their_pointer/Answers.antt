use Rattle.sbp_world.proofs.of_lists.rung_lists_have_their_pointer.Goals as goal
use Rattle.sbp_world.proofs.Completing.PresentProved.{rung_written_law}

pub returns : goal.returns
returns c = rung_written_law
