use Rattle.std.proofs.Common.{arith}
use Rattle.std.proofs.lemmas.Grind.{common_steps}
use Rattle.sbp_target.specs.Agents.{lose}
use Rattle.sbp_target.proofs.node.Node.lose.Goals as goal

pub returns-then-not-is_under_way-clause-step : goal.returns-then-not-is_under_way-clause-step
unfolding lose
returns-then-not-is_under_way-clause-step c = grind (arith, common_steps)

pub returns-clause-step : goal.returns-clause-step
unfolding lose
returns-clause-step c = grind (arith, common_steps)
