-- Each call keeps an agent along its list.
use Rattle.agent_laws.proofs.Along.Tested.{calls_keep_along}
use Rattle.agent_laws.proofs.growing.calls_keep_agents_along.Goals as goal

pub returns : goal.returns
returns c = calls_keep_along
