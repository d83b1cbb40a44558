use Rattle.sbp_world.proofs.Agents.AskedRequests.{requests_law}
use Rattle.sbp_world.proofs.of_agents.requests_keep_what_was_asked.Goals as goal

pub returns : goal.returns
returns c = requests_law
