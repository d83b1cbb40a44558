-- The ORBs of a list run and end in its order.
use Rattle.agent_laws.proofs.Along.Tested.{lists_go_in_order}
use Rattle.agent_laws.proofs.growing.lists_go_in_order.Goals as goal

pub returns : goal.returns
returns c = lists_go_in_order
