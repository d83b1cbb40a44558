use Rattle.sbp_target.specs.Nodes.{scene}
use Rattle.sbp_target.proofs.Acting.{logged_so}
use Rattle.sbp_target.proofs.Replying.{on_ok}
use Rattle.sbp_target.proofs.node.Node.log_out.Goals as goal

pub returns-clause-step : goal.returns-clause-step
returns-clause-step c =
    on_ok _ _ c.tell.result (λ t. logged_so c.args.place c.args.login (scene c.args.self.now c.args.outbox.now) (scene c.cut_place.new.self c.cut_place.new.outbox) _ _ c.in_ok-cut_place.ensures.step c.disable.ensures.left t) c.tell.ensures.ok
