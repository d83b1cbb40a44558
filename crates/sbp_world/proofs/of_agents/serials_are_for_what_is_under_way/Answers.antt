use Rattle.sbp_world.proofs.Agents.CrewRuns.{serials_law}
use Rattle.sbp_world.proofs.of_agents.serials_are_for_what_is_under_way.Goals as goal

pub returns : goal.returns
returns c = serials_law
