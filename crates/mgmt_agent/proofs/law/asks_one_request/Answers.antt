use Rattle.mgmt_agent.proofs.Asking.{asks_one_request}
use Rattle.mgmt_agent.proofs.law.asks_one_request.Goals as goal

pub returns : goal.returns
returns c = asks_one_request
