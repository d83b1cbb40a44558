use Rattle.std.proofs.Common.{arith}
use Rattle.std.proofs.lemmas.Grind.{common_steps}
use Rattle.sbp_target.specs.Serving.{point}
use Rattle.sbp_target.proofs.node.Node.point.Goals as goal

pub returns-in-Err-clause-step : goal.returns-in-Err-clause-step
unfolding point
returns-in-Err-clause-step c = grind (arith, common_steps)

pub returns-in_ok-tell_opened-in-Ok-clause-step : goal.returns-in_ok-tell_opened-in-Ok-clause-step
unfolding point
returns-in_ok-tell_opened-in-Ok-clause-step c = grind (arith, common_steps)
