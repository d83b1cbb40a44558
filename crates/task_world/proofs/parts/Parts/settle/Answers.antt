use Rattle.std.proofs.Common.{◌∙◌, ap}
use Rattle.sbp_world.specs.Settling.{is_settled}
use Rattle.sbp_world.proofs.Buses.{noted_on}
use Rattle.task_world.proofs.Delivered.{settles_at}
use Rattle.task_world.proofs.parts.Parts.settle.Goals as goal

pub returns-clause-settles : goal.returns-clause-settles
returns-clause-settles g c =
    settles_at _ _ _ _ _ _ _ c.budget-most.ensures.budget c.in_ok-deliver_up_to.ensures.delivers (c.in_ok-_settled.ensures.done ∙ ap (λ w. is_settled w.world) c.self.view_is) (noted_on _ _ _ _ (ap (λ w. w.world) c.self.view_is) c.in_ok-_settled.ensures.told) (ap (λ w. w.node) c.self.view_is)
