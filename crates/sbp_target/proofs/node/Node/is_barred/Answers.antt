use Rattle.std.proofs.Common.{arith}
use Rattle.std.proofs.lemmas.Grind.{common_steps}
use Rattle.sbp_target.specs.Serving.{is_barred}
use Rattle.sbp_target.proofs.node.Node.is_barred.Goals as goal

pub returns : goal.returns
unfolding is_barred
returns c = grind (arith, common_steps)
