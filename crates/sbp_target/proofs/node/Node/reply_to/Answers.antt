use Rattle.sbp_target.proofs.Replying.{none_served, none_awaited, on_ok, served_so}
use Rattle.sbp_target.proofs.node.Node.reply_to.Goals as goal

pub returns-in_default-clause-step : goal.returns-in_default-clause-step
returns-in_default-clause-step g c = none_served _ _ _ _ _ _ c.in_default.ensures.login

pub returns-in_default-awaited-clause-step : goal.returns-in_default-awaited-clause-step
returns-in_default-awaited-clause-step g c = none_awaited _ _ _ _ _ _ _ c.in-Some.ensures.login c.in_default-awaited.ensures.which

pub returns-clause-step : goal.returns-clause-step
returns-clause-step g c =
    on_ok _ _ c.advance.result (λ a. served_so _ _ _ _ _ _ _ _ _ _ c.in-Some.ensures.login c.in-Some-awaited.ensures.which a) c.advance.ensures.step
