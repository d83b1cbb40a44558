use Rattle.sbp_world.proofs.Agents.AskedRuns.{asked_run_law}
use Rattle.sbp_world.proofs.of_agents.agents_wait_for_what_they_asked.Goals as goal

pub returns : goal.returns
returns c = asked_run_law
