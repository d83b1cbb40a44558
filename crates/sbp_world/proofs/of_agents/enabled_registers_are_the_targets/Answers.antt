use Rattle.sbp_world.proofs.Agents.Registering.{enabled_terms_law}
use Rattle.sbp_world.proofs.of_agents.enabled_registers_are_the_targets.Goals as goal

pub returns : goal.returns
returns c = enabled_terms_law
