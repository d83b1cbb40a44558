use Rattle.std.proofs.Common.{arith}
use Rattle.std.proofs.lemmas.Grind.{common_steps}
use Rattle.sbp_target.specs.Serving.{ring}
use Rattle.sbp_target.proofs.node.Node.ring.Goals as goal

pub returns-clause-step : goal.returns-clause-step
unfolding ring
returns-clause-step c = grind (arith, common_steps)
