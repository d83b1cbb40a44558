use Rattle.sbp_world.proofs.Agents.AskedSights.{sights_law}
use Rattle.sbp_world.proofs.of_agents.sights_keep_what_was_asked.Goals as goal

pub returns : goal.returns
returns c = sights_law
