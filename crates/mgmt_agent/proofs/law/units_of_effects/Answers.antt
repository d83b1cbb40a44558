use Rattle.mgmt_agent.proofs.Places.{units_of_effects}
use Rattle.mgmt_agent.proofs.law.units_of_effects.Goals as goal

pub returns : goal.returns
returns c = units_of_effects
