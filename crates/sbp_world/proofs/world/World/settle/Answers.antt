use Rattle.sbp_world.proofs.Wire.Keeping.{settle_keeps, settle_settles_where}
use Rattle.sbp_world.proofs.world.World.settle.Goals as goal

pub returns-clause-lawful : goal.returns-clause-lawful
returns-clause-lawful g c = settle_keeps _ _ _ _ _ _ _ _ c.self.view_is c.clear.ensures c.in_ok-settled.ensures.settles

pub returns-clause-done : goal.returns-clause-done
returns-clause-done g c = settle_settles_where _ _ _ _ _ _ _ _ c.self.view_is c.clear.ensures c.in_ok-settled.ensures.settles
