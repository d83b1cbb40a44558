use Rattle.std.proofs.Common.{arith}
use Rattle.std.proofs.lemmas.Grind.{common_steps}
use Rattle.sbp_target.specs.Management.{manage}
use Rattle.sbp_target.proofs.node.Node.manage.Goals as goal

pub returns-in_default-clause-step : goal.returns-in_default-clause-step
unfolding manage
returns-in_default-clause-step c = grind (arith, common_steps)

pub returns-clause-step : goal.returns-clause-step
unfolding manage
returns-clause-step c = grind (arith, common_steps)
