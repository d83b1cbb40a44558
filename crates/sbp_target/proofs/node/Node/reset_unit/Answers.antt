use Rattle.std.proofs.Common.{arith}
use Rattle.std.proofs.lemmas.Grind.{common_steps}
use Rattle.sbp_target.proofs.node.Node.reset_unit.Goals as goal

pub returns-then-from-len-clause-step : goal.returns-then-from-len-clause-step
returns-then-from-len-clause-step c = grind (arith, common_steps)

pub returns-clause-step : goal.returns-clause-step
returns-clause-step c = grind (arith, common_steps)
