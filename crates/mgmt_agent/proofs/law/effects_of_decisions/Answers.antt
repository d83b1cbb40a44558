use Rattle.mgmt_agent.proofs.Doing.{effects_of_decisions}
use Rattle.mgmt_agent.proofs.law.effects_of_decisions.Goals as goal

pub returns : goal.returns
returns c = effects_of_decisions
