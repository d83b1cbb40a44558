use Rattle.mgmt_agent.proofs.Effects.{decisions_call}
use Rattle.mgmt_agent.proofs.law.decisions_call.Goals as goal

pub returns : goal.returns
returns c = decisions_call
