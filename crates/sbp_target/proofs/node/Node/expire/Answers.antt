use Rattle.std.proofs.Common.{arith}
use Rattle.std.proofs.lemmas.Grind.{common_steps}
use Rattle.sbp_target.specs.Receiving.{expired}
use Rattle.sbp_target.proofs.node.Node.expire.Goals as goal

pub returns-in-Err-clause-step : goal.returns-in-Err-clause-step
unfolding expired
returns-in-Err-clause-step c = grind (arith, common_steps)

pub returns-in-Ok-None-clause-step : goal.returns-in-Ok-None-clause-step
unfolding expired
returns-in-Ok-None-clause-step c = grind (arith, common_steps)

pub returns-in_ok-time_out-in-Ok-Some-clause-step : goal.returns-in_ok-time_out-in-Ok-Some-clause-step
unfolding expired
returns-in_ok-time_out-in-Ok-Some-clause-step c = grind (arith, common_steps)
