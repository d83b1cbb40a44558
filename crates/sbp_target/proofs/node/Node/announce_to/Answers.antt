use Rattle.std.proofs.Common.{arith}
use Rattle.std.proofs.lemmas.Grind.{common_steps}
use Rattle.sbp_target.specs.Units.{announce_to}
use Rattle.sbp_target.proofs.node.Node.announce_to.Goals as goal

pub returns-then-is_pending-clause-step : goal.returns-then-is_pending-clause-step
unfolding announce_to
returns-then-is_pending-clause-step c = grind (arith, common_steps)

pub returns-then-is_none-clause-step : goal.returns-then-is_none-clause-step
unfolding announce_to
returns-then-is_none-clause-step c = grind (arith, common_steps)

pub returns-clause-step : goal.returns-clause-step
unfolding announce_to
returns-clause-step c = grind (arith, common_steps)
