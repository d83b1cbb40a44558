use Rattle.std.proofs.Common.{arith}
use Rattle.std.proofs.lemmas.Grind.{common_steps}
use Rattle.sbp_target.specs.Replies.{follow_all}
use Rattle.sbp_target.proofs.node.Node.follow_all.Goals as goal

pub returns-then-loaded-2-clause-step : goal.returns-then-loaded-2-clause-step
unfolding follow_all
returns-then-loaded-2-clause-step c = grind (arith, common_steps)

pub returns-clause-step : goal.returns-clause-step
unfolding follow_all
returns-clause-step c = grind (arith, common_steps)
