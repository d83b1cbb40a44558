use Rattle.sbp_world.proofs.Agents.AskedReplies.{replies_law}
use Rattle.sbp_world.proofs.of_agents.replies_keep_what_was_asked.Goals as goal

pub returns : goal.returns
returns c = replies_law
