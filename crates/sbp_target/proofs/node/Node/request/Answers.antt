use Rattle.std.proofs.Common.{arith}
use Rattle.std.proofs.lemmas.Grind.{common_steps}
use Rattle.sbp_target.specs.Serving.{request_step}
use Rattle.sbp_target.proofs.node.Node.request.Goals as goal

pub returns-then-is_barred-clause-step : goal.returns-then-is_barred-clause-step
unfolding request_step
returns-then-is_barred-clause-step c = grind (arith, common_steps)

pub returns-clause-step : goal.returns-clause-step
unfolding request_step
returns-clause-step c = grind (arith, common_steps)
