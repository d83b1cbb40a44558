use Rattle.std.proofs.Common.{arith}
use Rattle.std.proofs.lemmas.Grind.{common_steps}
use Rattle.sbp_target.proofs.target.Target.receive.Goals as goal

pub returns-then-not-matches-clause-step : goal.returns-then-not-matches-clause-step
returns-then-not-matches-clause-step g c = grind (arith, common_steps)

pub returns-else-not-matches-clause-step : goal.returns-else-not-matches-clause-step
returns-else-not-matches-clause-step g c = grind (arith, common_steps)
