use Rattle.sbp_target.proofs.Replying.{on_ok}
use Rattle.sbp_target.proofs.Concluding.{concludes_agent, concludes_management, concludes_unsolicited}
use Rattle.sbp_target.proofs.node.Node.finish_for.Goals as goal

pub returns-in-Agent-clause-step : goal.returns-in-Agent-clause-step
returns-in-Agent-clause-step g c =
    on_ok _ _ c.reply_to.result (λ r. concludes_agent _ _ _ _ _ _ _ _ _ c.in-Agent.is r) c.reply_to.ensures.step

pub returns-in-Management-clause-step : goal.returns-in-Management-clause-step
returns-in-Management-clause-step g c =
    on_ok _ _ c.manage.result (λ e. concludes_management _ _ _ _ (record { node = c.args.self.now; outbox = c.args.outbox.now; disks = _ }) _ _ c.in-Management.is e) c.manage.ensures.step

pub returns-in-Unsolicited-clause-step : goal.returns-in-Unsolicited-clause-step
returns-in-Unsolicited-clause-step g c =
    concludes_unsolicited _ _ _ _ (record { node = c.args.self.now; outbox = c.args.outbox.now; disks = _ }) _ _ c.in-Unsolicited.is c.settle.ensures.left
