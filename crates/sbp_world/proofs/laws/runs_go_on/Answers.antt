use Rattle.sbp_world.proofs.Standing.{goes_on}
use Rattle.sbp_world.proofs.laws.runs_go_on.Goals as goal

pub returns : goal.returns
returns c = goes_on
