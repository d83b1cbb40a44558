use Rattle.std.proofs.Common.{arith}
use Rattle.std.proofs.lemmas.Grind.{common_steps}
use Rattle.sbp_target.specs.Serving.{serve}
use Rattle.sbp_target.proofs.node.Node.serve.Goals as goal

pub returns-in-Refused-clause-step : goal.returns-in-Refused-clause-step
unfolding serve
returns-in-Refused-clause-step c = grind (arith, common_steps)

pub returns-in-Rom-clause-step : goal.returns-in-Rom-clause-step
unfolding serve
returns-in-Rom-clause-step c = grind (arith, common_steps)

pub returns-in-Manage-clause-step : goal.returns-in-Manage-clause-step
unfolding serve
returns-in-Manage-clause-step c = grind (arith, common_steps)

pub returns-in-Agent-clause-step : goal.returns-in-Agent-clause-step
unfolding serve
returns-in-Agent-clause-step c = grind (arith, common_steps)
