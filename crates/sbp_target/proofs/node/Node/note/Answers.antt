use Rattle.std.proofs.Common.{arith}
use Rattle.std.proofs.lemmas.Grind.{common_steps}
use Rattle.sbp_target.specs.Agents.{noted}
use Rattle.sbp_target.proofs.node.Node.note.Goals as goal

pub returns-then-step-clause-step : goal.returns-then-step-clause-step
unfolding noted
returns-then-step-clause-step c = grind (arith, common_steps)

pub returns-else-step-clause-step : goal.returns-else-step-clause-step
unfolding noted
returns-else-step-clause-step c = grind (arith, common_steps)
