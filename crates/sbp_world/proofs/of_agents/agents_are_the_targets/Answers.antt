use Rattle.sbp_world.proofs.Agents.CrewRuns.{agents_run_law}
use Rattle.sbp_world.proofs.of_agents.agents_are_the_targets.Goals as goal

pub returns : goal.returns
returns c = agents_run_law
