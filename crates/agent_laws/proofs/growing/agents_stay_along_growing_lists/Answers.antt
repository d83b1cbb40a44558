-- An agent stays along a list that grows.
use Rattle.agent_laws.proofs.Along.Tested.{lists_may_grow}
use Rattle.agent_laws.proofs.growing.agents_stay_along_growing_lists.Goals as goal

pub returns : goal.returns
returns c = lists_may_grow
