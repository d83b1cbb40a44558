use Rattle.std.proofs.Common.{arith}
use Rattle.std.proofs.lemmas.Grind.{common_steps}
use Rattle.sbp_target.specs.Management.{ask_manager}
use Rattle.sbp_target.proofs.node.Node.ask_manager.Goals as goal

pub returns-in_default-clause-step : goal.returns-in_default-clause-step
unfolding ask_manager
returns-in_default-clause-step c = grind (arith, common_steps)

pub returns-then-is_some-clause-step : goal.returns-then-is_some-clause-step
unfolding ask_manager
returns-then-is_some-clause-step c = grind (arith, common_steps)

pub returns-clause-step : goal.returns-clause-step
unfolding ask_manager
returns-clause-step c = grind (arith, common_steps)
