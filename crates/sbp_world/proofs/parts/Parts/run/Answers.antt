use Rattle.sbp_world.proofs.Words.World.{acted, keyed, reset_line, see_line, tick_line, inject_line, lose_line, timeout_line}
use Rattle.std.specs.Prelude.{refl}
use Rattle.sbp_world.proofs.Buses.{injected_on, lost_on, reset_on}
use Rattle.sbp_world.proofs.Delivered.{on_ok}
use Rattle.sbp_world.proofs.Events.{deliver_is, line_is, repeat_is, settle_is, step_is, timeout_is}
use Rattle.sbp_world.proofs.parts.Parts.run.Goals as goal

pub returns-in-Act-clause-happens : goal.returns-in-Act-clause-happens
returns-in-Act-clause-happens g c =
    on_ok c.act.result _ _ (λ e. line_is _ _ _ (acted _ _ _) _ _ _ _ c.in-Act.is e refl refl) c.act.ensures.step

pub returns-in-Reset-clause-happens : goal.returns-in-Reset-clause-happens
returns-in-Reset-clause-happens g c =
    on_ok c.reset.result _ _ (λ e. line_is _ _ _ (reset_line _) _ _ _ _ c.in-Reset.is (reset_on _ _ _ _ _ c.self.view_is c.as_slice.ensures e) refl refl) c.reset.ensures.step

pub returns-in-See-clause-happens : goal.returns-in-See-clause-happens
returns-in-See-clause-happens g c =
    on_ok c.see.result _ _ (λ e. line_is _ _ _ (see_line _) _ _ _ _ c.in-See.is e refl refl) c.see.ensures.step

pub returns-in-Deliver-clause-happens : goal.returns-in-Deliver-clause-happens
returns-in-Deliver-clause-happens g c =
    on_ok c.deliver_line.result _ _ (λ d. deliver_is _ _ _ _ _ c.in-Deliver.is d) c.deliver_line.ensures.delivered

pub returns-in-Repeat-clause-happens : goal.returns-in-Repeat-clause-happens
returns-in-Repeat-clause-happens g c =
    on_ok c.repeat_line.result _ _ (λ d. repeat_is _ _ _ _ _ c.in-Repeat.is d) c.repeat_line.ensures.repeated

pub returns-in-Lose-clause-happens : goal.returns-in-Lose-clause-happens
returns-in-Lose-clause-happens g c =
    on_ok c.lose.result _ _ (λ e. line_is _ _ _ (lose_line _ _) _ _ _ _ c.in-Lose.is (lost_on _ _ _ _ _ c.self.view_is e) refl refl) c.lose.ensures.step

pub returns-in-Timeout-clause-happens : goal.returns-in-Timeout-clause-happens
returns-in-Timeout-clause-happens g c =
    on_ok c.time_out.result _ _ (λ e. timeout_is _ _ _ (timeout_line _ _) _ _ _ _ _ _ c.in-Timeout.is e c.time_out.ensures.disks c.time_out.ensures.faults refl) c.time_out.ensures.step

pub returns-in-Step-clause-happens : goal.returns-in-Step-clause-happens
returns-in-Step-clause-happens g c =
    on_ok c.deliver_up_to.result _ _ (λ d. step_is _ _ _ _ _ _ c.in-Step.is c.widen.ensures d) c.deliver_up_to.ensures.delivers

pub returns-in_ok-settle-in-Settle-clause-happens : goal.returns-in_ok-settle-in-Settle-clause-happens
returns-in_ok-settle-in-Settle-clause-happens g c =
    settle_is _ _ _ _ _ c.in-Settle.is c.in_ok-settle-in-Settle.ensures.settles

pub returns-in-Tick-clause-happens : goal.returns-in-Tick-clause-happens
returns-in-Tick-clause-happens g c =
    on_ok c.tick.result _ _ (λ e. line_is _ _ _ tick_line _ _ _ _ c.in-Tick.is e refl refl) c.tick.ensures.step

pub returns-in-Inject-clause-happens : goal.returns-in-Inject-clause-happens
returns-in-Inject-clause-happens g c =
    on_ok c.inject.result _ _ (λ e. line_is _ _ _ (inject_line _ _ _) _ _ _ _ c.in-Inject.is (injected_on _ _ _ _ _ _ _ c.self.view_is c.as_slice-in-Inject.ensures e) refl refl) c.inject.ensures.step

pub returns-in-Key-clause-happens : goal.returns-in-Key-clause-happens
returns-in-Key-clause-happens g c =
    on_ok c.set_key.result _ _ (λ e. line_is _ _ _ (keyed _ _ _) _ _ _ _ c.in-Key.is e refl refl) c.set_key.ensures.step
