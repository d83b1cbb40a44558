use Rattle.sbp_world.proofs.Agents.Holders.{holders_law}
use Rattle.sbp_world.proofs.of_agents.places_have_their_initiators.Goals as goal

pub returns : goal.returns
returns c = holders_law
