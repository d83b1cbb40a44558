use Rattle.mgmt_agent.proofs.Places.{places_of_effects}
use Rattle.mgmt_agent.proofs.law.places_of_effects.Goals as goal

pub returns : goal.returns
returns c = places_of_effects
