use Rattle.sbp_world.proofs.Standing.{begins}
use Rattle.sbp_world.proofs.laws.runs_begin.Goals as goal

pub returns : goal.returns
returns c = begins
