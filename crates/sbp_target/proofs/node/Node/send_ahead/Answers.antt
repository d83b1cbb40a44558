use Rattle.std.proofs.Common.{arith}
use Rattle.std.proofs.lemmas.Grind.{common_steps}
use Rattle.sbp_target.specs.Agents.{send_ahead}
use Rattle.sbp_target.proofs.node.Node.send_ahead.Goals as goal

pub returns-in_default-clause-step : goal.returns-in_default-clause-step
unfolding send_ahead
returns-in_default-clause-step c = grind (arith, common_steps)

pub returns-then-is_short-clause-step : goal.returns-then-is_short-clause-step
unfolding send_ahead
returns-then-is_short-clause-step c = grind (arith, common_steps)

pub returns-in_default-sent-clause-step : goal.returns-in_default-sent-clause-step
unfolding send_ahead
returns-in_default-sent-clause-step c = grind (arith, common_steps)

pub returns-clause-step : goal.returns-clause-step
unfolding send_ahead
returns-clause-step c = grind (arith, common_steps)
