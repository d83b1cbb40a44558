use Rattle.mgmt_agent.proofs.Whole.{whole_operations}
use Rattle.mgmt_agent.proofs.law.whole_operations.Goals as goal

pub returns : goal.returns
returns c = whole_operations
