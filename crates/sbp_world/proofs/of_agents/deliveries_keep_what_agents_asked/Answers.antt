use Rattle.sbp_world.proofs.Agents.AskedRuns.{asked_between_law}
use Rattle.sbp_world.proofs.of_agents.deliveries_keep_what_agents_asked.Goals as goal

pub returns : goal.returns
returns c = asked_between_law
