use Rattle.std.proofs.Common.{arith}
use Rattle.std.proofs.lemmas.Grind.{common_steps}
use Rattle.sbp_target.specs.Agents.{lose_main}
use Rattle.sbp_target.proofs.node.Node.lose_main.Goals as goal

pub returns-then-branch-clause-step : goal.returns-then-branch-clause-step
unfolding lose_main
returns-then-branch-clause-step c = grind (arith, common_steps)

pub returns-clause-step : goal.returns-clause-step
unfolding lose_main
returns-clause-step c = grind (arith, common_steps)
