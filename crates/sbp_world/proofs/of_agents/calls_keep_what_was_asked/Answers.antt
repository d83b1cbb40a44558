use Rattle.sbp_world.proofs.Agents.AskedCalls.{calls_law}
use Rattle.sbp_world.proofs.of_agents.calls_keep_what_was_asked.Goals as goal

pub returns : goal.returns
returns c = calls_law
