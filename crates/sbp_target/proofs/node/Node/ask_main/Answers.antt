use Rattle.std.proofs.Common.{arith}
use Rattle.std.proofs.lemmas.Grind.{common_steps}
use Rattle.sbp_target.specs.Agents.{ask_main}
use Rattle.sbp_target.proofs.node.Node.ask_main.Goals as goal

pub returns-in_default-clause-step : goal.returns-in_default-clause-step
unfolding ask_main
returns-in_default-clause-step c = grind (arith, common_steps)

pub returns-in_default-sent-clause-step : goal.returns-in_default-sent-clause-step
unfolding ask_main
returns-in_default-sent-clause-step c = grind (arith, common_steps)

pub returns-clause-step : goal.returns-clause-step
unfolding ask_main
returns-clause-step c = grind (arith, common_steps)
