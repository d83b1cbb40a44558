use Rattle.sbp_world.proofs.Agents.AskedFollows.{follow_law}
use Rattle.sbp_world.proofs.of_agents.desks_wait_for_what_left.Goals as goal

pub returns : goal.returns
returns c = follow_law
