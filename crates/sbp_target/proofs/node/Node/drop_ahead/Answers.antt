use Rattle.std.proofs.Common.{arith}
use Rattle.std.proofs.lemmas.Grind.{common_steps}
use Rattle.sbp_target.specs.Agents.{without_ahead}
use Rattle.sbp_target.proofs.node.Node.drop_ahead.Goals as goal

pub returns-clause-left : goal.returns-clause-left
unfolding without_ahead
returns-clause-left c = grind (arith, common_steps)
