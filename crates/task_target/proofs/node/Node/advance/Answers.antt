use Rattle.std.proofs.Common.{ap, ◌∙◌}
use Rattle.task_target.specs.Nodes.{TaskNode}
use Rattle.task_target.specs.Following.{about}
use Rattle.task_target.proofs.Replying.{advanced_so, on_ok, replied_so}
use Rattle.task_target.proofs.node.Node.advance.Goals as goal

pub returns-clause-step : goal.returns-clause-step
returns-clause-step g c =
    let made = c.reply_agent-step.ensures in
    let replies = replied_so _ _ _ _ _ _ _ _ made.step made.agent made.may made.bytes made.cause in
    let at = c.about-at.ensures.place ∙ ap (λ (n : TaskNode). about n.agent c.args.place) c.self.view_is in
    on_ok _ _ c.follow.result (λ e. advanced_so _ _ _ (record { node = c.args.self.now; outbox = c.args.outbox.now; disk = _ }) (record { node = c.follow.new.self; outbox = c.follow.new.outbox; disk = _ }) _ _ _ _ _ _ _ replies at e c.follow.ensures.disk c.follow.ensures.faults) c.follow.ensures.step
