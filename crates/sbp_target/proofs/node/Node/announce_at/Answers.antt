use Rattle.std.proofs.Common.{arith}
use Rattle.std.proofs.lemmas.Grind.{common_steps}
use Rattle.sbp_target.specs.Units.{announce_at}
use Rattle.sbp_target.proofs.node.Node.announce_at.Goals as goal

pub returns-in_default-clause-step : goal.returns-in_default-clause-step
unfolding announce_at
returns-in_default-clause-step c = grind (arith, common_steps)

pub returns-then-not-hears-clause-step : goal.returns-then-not-hears-clause-step
unfolding announce_at
returns-then-not-hears-clause-step c = grind (arith, common_steps)

pub returns-clause-step : goal.returns-clause-step
unfolding announce_at
returns-clause-step c = grind (arith, common_steps)
