use Rattle.sbp_world.proofs.Agents.Registering.{enabled_terms_between_law}
use Rattle.sbp_world.proofs.of_agents.deliveries_keep_the_enabled_registers.Goals as goal

pub returns : goal.returns
returns c = enabled_terms_between_law
