use Rattle.task_target.proofs.Received.{concludes_none, concludes_place}
use Rattle.task_target.proofs.Replying.{on_ok}
use Rattle.task_target.proofs.node.Node.finish.Goals as goal

pub returns-in-Some-clause-step : goal.returns-in-Some-clause-step
returns-in-Some-clause-step g c =
    on_ok _ _ c.reply_to.result (λ r. concludes_place _ _ _ _ _ _ _ _ _ c.in-Some.is r) c.reply_to.ensures.step

pub returns-in-None-clause-step : goal.returns-in-None-clause-step
returns-in-None-clause-step g c = concludes_none _ _ _ _ _ _ c.in-None.is
