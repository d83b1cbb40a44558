use Rattle.sbp_world.proofs.Standing.{settles}
use Rattle.sbp_world.proofs.laws.settles_go_on.Goals as goal

pub returns : goal.returns
returns c = settles
