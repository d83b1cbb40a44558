use Rattle.std.proofs.Common.{ap}
use Rattle.sbp_world.proofs.Buses.{lost_on}
use Rattle.sbp_world.proofs.Delivered.{on_ok}
use Rattle.task_world.proofs.Events.{act_is, acts_fit, deliver_is, lose_is, repeat_is, settle_is, step_is, timeout_is}
use Rattle.task_world.proofs.parts.Parts.run.Goals as goal

pub act-requires : goal.act-requires
act-requires g c = acts_fit _ _ _ c.in-Act.is c.requires.event

pub returns-in-Act-clause-happens : goal.returns-in-Act-clause-happens
returns-in-Act-clause-happens g c =
    on_ok c.act.result _ _ (λ e. act_is _ _ _ _ _ _ _ _ c.in-Act.is c.requires.event e c.act.ensures.node) c.act.ensures.step

pub returns-in-Deliver-clause-happens : goal.returns-in-Deliver-clause-happens
returns-in-Deliver-clause-happens g c =
    on_ok c.deliver_line.result _ _ (λ d. deliver_is _ _ _ _ _ c.in-Deliver.is d) c.deliver_line.ensures.delivered

pub returns-in-Repeat-clause-happens : goal.returns-in-Repeat-clause-happens
returns-in-Repeat-clause-happens g c =
    on_ok c.repeat_line.result _ _ (λ d. repeat_is _ _ _ _ _ c.in-Repeat.is d) c.repeat_line.ensures.repeated

pub returns-in-Lose-clause-happens : goal.returns-in-Lose-clause-happens
returns-in-Lose-clause-happens g c =
    on_ok c.lose.result _ _ (λ e. lose_is _ _ _ _ _ _ _ c.in-Lose.is (lost_on _ _ _ _ _ (ap (λ w. w.world) c.self.view_is) e) (ap (λ w. w.node) c.self.view_is)) c.lose.ensures.step

pub returns-in-Timeout-clause-happens : goal.returns-in-Timeout-clause-happens
returns-in-Timeout-clause-happens g c =
    on_ok c.time_out.result _ _ (λ e. timeout_is _ _ _ _ _ _ _ _ _ c.in-Timeout.is e c.time_out.ensures.disk c.time_out.ensures.faults) c.time_out.ensures.step

pub returns-in-Step-clause-happens : goal.returns-in-Step-clause-happens
returns-in-Step-clause-happens g c =
    on_ok c.deliver_up_to.result _ _ (λ d. step_is _ _ _ _ _ _ c.in-Step.is c.widen.ensures d) c.deliver_up_to.ensures.delivers

pub returns-in-Settle-clause-happens : goal.returns-in-Settle-clause-happens
returns-in-Settle-clause-happens g c =
    on_ok c.settle.result _ _ (λ d. settle_is _ _ _ _ c.in-Settle.is d) c.settle.ensures.settles
