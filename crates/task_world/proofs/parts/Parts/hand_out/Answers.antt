use Rattle.sbp_world.proofs.Buses.{handed_on}
use Rattle.sbp_world.proofs.Delivered.{on_ok}
use Rattle.std.proofs.Common.{ap}
use Rattle.task_world.proofs.parts.Parts.hand_out.Goals as goal

pub returns-clause-step : goal.returns-clause-step
returns-clause-step c =
    on_ok c.send_all.result _ _ (λ e. handed_on _ _ _ _ _ _ _ _ (ap (λ w. w.world) c.self.view_is) c.in_ok-tell_all.ensures.told c.in_ok-tell_all.ensures.packets e) c.send_all.ensures.step
