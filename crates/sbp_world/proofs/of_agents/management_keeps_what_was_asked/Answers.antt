use Rattle.sbp_world.proofs.Agents.AskedManagement.{management_law}
use Rattle.sbp_world.proofs.of_agents.management_keeps_what_was_asked.Goals as goal

pub returns : goal.returns
returns c = management_law
