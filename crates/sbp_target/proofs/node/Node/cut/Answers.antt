use Rattle.std.proofs.Common.{arith}
use Rattle.std.proofs.lemmas.Grind.{common_steps}
use Rattle.sbp_target.specs.Agents.{cut}
use Rattle.sbp_target.proofs.node.Node.cut.Goals as goal

pub returns-in_ok-tell-clause-step : goal.returns-in_ok-tell-clause-step
unfolding cut
returns-in_ok-tell-clause-step c = grind (arith, common_steps)

pub returns-else-reset_agent-clause-step : goal.returns-else-reset_agent-clause-step
unfolding cut
returns-else-reset_agent-clause-step c = grind (arith, common_steps)
