use Rattle.std.proofs.Common.{arith}
use Rattle.std.proofs.lemmas.Grind.{common_steps}
use Rattle.sbp_target.specs.Receiving.{expire_agent}
use Rattle.sbp_target.proofs.node.Node.expire_agent.Goals as goal

pub returns-in_default-clause-step : goal.returns-in_default-clause-step
unfolding expire_agent
returns-in_default-clause-step c = grind (arith, common_steps)

pub returns-in_default-awaited-clause-step : goal.returns-in_default-awaited-clause-step
unfolding expire_agent
returns-in_default-awaited-clause-step c = grind (arith, common_steps)

pub returns-clause-step : goal.returns-clause-step
unfolding expire_agent
returns-clause-step c = grind (arith, common_steps)
