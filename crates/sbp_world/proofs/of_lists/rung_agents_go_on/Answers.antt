use Rattle.sbp_world.proofs.of_lists.rung_agents_go_on.Goals as goal
use Rattle.sbp_world.proofs.Completing.RungRuns.{rung_law}

pub returns : goal.returns
returns c = rung_law
