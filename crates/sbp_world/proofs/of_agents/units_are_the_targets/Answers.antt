use Rattle.sbp_world.proofs.Agents.Units.{units_law}
use Rattle.sbp_world.proofs.of_agents.units_are_the_targets.Goals as goal

pub returns : goal.returns
returns c = units_law
