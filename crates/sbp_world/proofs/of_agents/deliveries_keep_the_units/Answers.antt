use Rattle.sbp_world.proofs.Agents.Units.{units_between_law}
use Rattle.sbp_world.proofs.of_agents.deliveries_keep_the_units.Goals as goal

pub returns : goal.returns
returns c = units_between_law
