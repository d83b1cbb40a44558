use Rattle.std.proofs.Common.{arith}
use Rattle.std.proofs.lemmas.Grind.{common_steps}
use Rattle.sbp_target.specs.Nodes.{scene}
use Rattle.sbp_target.proofs.Acting.{clear_so}
use Rattle.sbp_target.proofs.Replying.{on_ok}
use Rattle.sbp_target.proofs.node.Node.clear_unit.Goals as goal

pub returns-clause-step : goal.returns-clause-step
returns-clause-step c = rw (← c.self.view_is) (on_ok _ _ c.tell.result (λ t. clear_so c.args.unit c.mask_of-logins.result (scene _ c.args.outbox.now) _ _ c.mask_of-logins.ensures (grind (arith, common_steps)) t) c.tell.ensures.ok)
