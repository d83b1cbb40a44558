use Rattle.sbp_world.proofs.Words.Std.{◌∙◌, ap}
use Rattle.sbp_world.proofs.Words.World.{is_settled}
use Rattle.sbp_world.proofs.Buses.{noted_on}
use Rattle.sbp_world.proofs.Delivered.{settles_at}
use Rattle.sbp_world.proofs.parts.Parts.settle.Goals as goal

pub returns-clause-settles : goal.returns-clause-settles
returns-clause-settles g c =
    settles_at _ _ _ _ _ _ _ c.budget-most.ensures.budget c.in_ok-deliver_up_to.ensures.delivers (c.in_ok-settled.ensures.done ∙ ap is_settled c.self.view_is) (noted_on _ _ _ _ c.self.view_is c.in_ok-settled.ensures.told)
