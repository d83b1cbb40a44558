use Rattle.sbp_world.proofs.Agents.Enabling.{enabled_law}
use Rattle.sbp_world.proofs.of_agents.enabled_registers_have_live_logins.Goals as goal

pub returns : goal.returns
returns c = enabled_law
