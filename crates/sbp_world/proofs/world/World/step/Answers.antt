use Rattle.sbp_world.proofs.Wire.Keeping.{step_keeps}
use Rattle.sbp_world.proofs.world.World.step.Goals as goal

pub returns-clause-lawful : goal.returns-clause-lawful
returns-clause-lawful g c = step_keeps _ _ _ _ _ _ _ c.self.view_is c.in_ok-step.ensures.happens
