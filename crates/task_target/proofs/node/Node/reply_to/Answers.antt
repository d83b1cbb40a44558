use Rattle.task_target.proofs.Replying.{none_served, none_awaited, on_ok, served_so}
use Rattle.task_target.proofs.node.Node.reply_to.Goals as goal

pub returns-in_default-clause-step : goal.returns-in_default-clause-step
returns-in_default-clause-step g c = none_served _ _ _ _ _ _ c.in_default.ensures

pub returns-then-not-awaits-clause-step : goal.returns-then-not-awaits-clause-step
returns-then-not-awaits-clause-step g c = none_awaited _ _ _ _ _ _ _ c.in-Some.ensures c.if-not-awaits.ensures.awaits

pub returns-clause-step : goal.returns-clause-step
returns-clause-step g c =
    on_ok _ _ c.advance.result (λ a. served_so _ _ _ _ _ _ _ _ _ c.in-Some.ensures c.if-not-awaits.ensures.awaits a) c.advance.ensures.step
