use Rattle.sbp_world.proofs.Agents.AskedTicks.{ticks_law}
use Rattle.sbp_world.proofs.of_agents.seconds_keep_what_was_asked.Goals as goal

pub returns : goal.returns
returns c = ticks_law
