use Rattle.std.proofs.Common.{arith}
use Rattle.std.proofs.lemmas.Grind.{common_steps}
use Rattle.task_target.specs.Sending.{request_step}
use Rattle.task_target.proofs.sending.send_request.Goals as goal

pub returns-in_default-clause-step : goal.returns-in_default-clause-step
unfolding request_step
returns-in_default-clause-step c = grind (arith, common_steps)

pub returns-clause-step : goal.returns-clause-step
unfolding request_step
returns-clause-step c = grind (arith, common_steps)
