use Rattle.sbp_world.proofs.Agents.Enabling.{enabled_between_law}
use Rattle.sbp_world.proofs.of_agents.deliveries_keep_enabled_registers_live.Goals as goal

pub returns : goal.returns
returns c = enabled_between_law
