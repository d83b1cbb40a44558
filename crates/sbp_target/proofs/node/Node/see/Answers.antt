use Rattle.sbp_target.specs.Nodes.{scene}
use Rattle.sbp_target.proofs.Acting.{seen_later}
use Rattle.sbp_target.proofs.node.Node.see.Goals as goal

pub returns-clause-step : goal.returns-clause-step
returns-clause-step c =
    rw (← c.self.view_is) (seen_later _ _ _ (scene c.cut_all.new.self c.cut_all.new.outbox) _ c.sees.new.layer (cc) (cc (c.in_ok-cut_all.ensures.step)) c.in_ok-hold_all.ensures.step)
