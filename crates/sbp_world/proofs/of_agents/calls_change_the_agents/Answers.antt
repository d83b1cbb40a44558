use Rattle.sbp_world.proofs.Agents.Keeping.{agents_law}
use Rattle.sbp_world.proofs.of_agents.calls_change_the_agents.Goals as goal

-- src/laws.rt:23:1
pub returns : goal.returns
returns c = agents_law
