use Rattle.std.proofs.Common.{arith}
use Rattle.std.proofs.lemmas.Grind.{common_steps}
use Rattle.sbp_target.proofs.node.Node.affect.Goals as goal

pub returns-in-Nothing-clause-step : goal.returns-in-Nothing-clause-step
returns-in-Nothing-clause-step c = grind (arith, common_steps)

pub returns-in-Entered-clause-step : goal.returns-in-Entered-clause-step
returns-in-Entered-clause-step c = grind (arith, common_steps)

pub returns-in-Back-clause-step : goal.returns-in-Back-clause-step
returns-in-Back-clause-step c = grind (arith, common_steps)

pub returns-in-Left-clause-step : goal.returns-in-Left-clause-step
returns-in-Left-clause-step c = grind (arith, common_steps)

pub returns-in-Abort-clause-step : goal.returns-in-Abort-clause-step
returns-in-Abort-clause-step c = grind (arith, common_steps)

pub returns-in-AbortSet-clause-step : goal.returns-in-AbortSet-clause-step
returns-in-AbortSet-clause-step c = grind (arith, common_steps)

pub returns-in-UnitReset-clause-step : goal.returns-in-UnitReset-clause-step
returns-in-UnitReset-clause-step c = grind (arith, common_steps)

pub returns-in-TargetReset-clause-step : goal.returns-in-TargetReset-clause-step
returns-in-TargetReset-clause-step c = grind (arith, common_steps)
