use Rattle.std.proofs.Common.{arith}
use Rattle.std.proofs.lemmas.Grind.{common_steps}
use Rattle.sbp_target.specs.Agents.{follow}
use Rattle.sbp_target.proofs.node.Node.follow.Goals as goal

pub returns-then-branch-clause-step : goal.returns-then-branch-clause-step
unfolding follow
returns-then-branch-clause-step c = grind (arith, common_steps)

pub returns-else-branch-clause-step : goal.returns-else-branch-clause-step
unfolding follow
returns-else-branch-clause-step c = grind (arith, common_steps)
