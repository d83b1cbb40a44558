use Rattle.sbp_world.proofs.Agents.AskedLate.{late_law}
use Rattle.sbp_world.proofs.of_agents.time_outs_keep_what_was_asked.Goals as goal

pub returns : goal.returns
returns c = late_law
