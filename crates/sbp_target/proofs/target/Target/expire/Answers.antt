use Rattle.std.proofs.Common.{arith}
use Rattle.std.proofs.lemmas.Grind.{common_steps}
use Rattle.sbp_target.specs.Receiving.{expired}
use Rattle.sbp_target.proofs.target.Target.expire.Goals as goal

pub returns-in-Ok-Ok-clause-step : goal.returns-in-Ok-Ok-clause-step
unfolding expired
returns-in-Ok-Ok-clause-step g c = grind (arith, common_steps)

pub returns-in-Ok-Err-clause-step : goal.returns-in-Ok-Err-clause-step
unfolding expired
returns-in-Ok-Err-clause-step g c = grind (arith, common_steps)

pub returns-in-Err-clause-step : goal.returns-in-Err-clause-step
unfolding expired
returns-in-Err-clause-step g c = grind (arith, common_steps)
