use Rattle.std.proofs.Common.{arith}
use Rattle.std.proofs.lemmas.Grind.{common_steps}
use Rattle.sbp_target.specs.Replies.{replied}
use Rattle.sbp_target.proofs.node.Node.reply_agent.Goals as goal

pub returns-clause-step : goal.returns-clause-step
unfolding replied
returns-clause-step g c = grind (arith, common_steps)

pub returns-clause-agent : goal.returns-clause-agent
unfolding replied
returns-clause-agent g c = grind (arith, common_steps)
