use Rattle.mgmt_agent.proofs.Outcomes.{refusals_do_nothing}
use Rattle.mgmt_agent.proofs.law.refusals_do_nothing.Goals as goal

pub returns : goal.returns
returns c = refusals_do_nothing
