use Rattle.sbp_world.proofs.Agents.Steps.{alike_law}
use Rattle.sbp_world.proofs.of_agents.alike_agents_step_alike.Goals as goal

-- src/laws.rt:14:1
pub returns : goal.returns
returns c = alike_law
