use Rattle.std.proofs.Common.{arith}
use Rattle.std.proofs.lemmas.Grind.{common_steps}
use Rattle.task_target.proofs.node.Node.conclude.Goals as goal

pub returns-in-ReadQuadletResponse-clause-step : goal.returns-in-ReadQuadletResponse-clause-step
returns-in-ReadQuadletResponse-clause-step g c = grind (arith, common_steps)
