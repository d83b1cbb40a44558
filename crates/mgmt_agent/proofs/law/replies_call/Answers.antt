use Rattle.mgmt_agent.proofs.Effects.{replies_call}
use Rattle.mgmt_agent.proofs.law.replies_call.Goals as goal

pub returns : goal.returns
returns c = replies_call
