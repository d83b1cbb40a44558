use Rattle.sbp_world.proofs.Agents.CrewRuns.{agents_between_law}
use Rattle.sbp_world.proofs.of_agents.deliveries_keep_the_agents.Goals as goal

pub returns : goal.returns
returns c = agents_between_law
