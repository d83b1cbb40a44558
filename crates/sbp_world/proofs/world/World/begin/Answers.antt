use Rattle.sbp_world.proofs.Wire.Keeping.{begins_lawfully}
use Rattle.sbp_world.proofs.world.World.begin.Goals as goal

pub returns-clause-lawful : goal.returns-clause-lawful
returns-clause-lawful c = begins_lawfully _ _ _ _ c.in_ok-parts.ensures
