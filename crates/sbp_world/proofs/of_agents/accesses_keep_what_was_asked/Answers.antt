use Rattle.sbp_world.proofs.Agents.AskedAccesses.{accesses_law}
use Rattle.sbp_world.proofs.of_agents.accesses_keep_what_was_asked.Goals as goal

pub returns : goal.returns
returns c = accesses_law
