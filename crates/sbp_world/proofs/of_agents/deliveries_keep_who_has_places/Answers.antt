use Rattle.sbp_world.proofs.Agents.Holders.{holders_between_law}
use Rattle.sbp_world.proofs.of_agents.deliveries_keep_who_has_places.Goals as goal

pub returns : goal.returns
returns c = holders_between_law
