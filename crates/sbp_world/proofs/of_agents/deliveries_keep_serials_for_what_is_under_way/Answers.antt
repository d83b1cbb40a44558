use Rattle.sbp_world.proofs.Agents.CrewRuns.{serials_between_law}
use Rattle.sbp_world.proofs.of_agents.deliveries_keep_serials_for_what_is_under_way.Goals as goal

pub returns : goal.returns
returns c = serials_between_law
