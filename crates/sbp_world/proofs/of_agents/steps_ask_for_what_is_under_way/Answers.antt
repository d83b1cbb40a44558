use Rattle.sbp_world.proofs.Agents.AskedSteps.{under_law}
use Rattle.sbp_world.proofs.of_agents.steps_ask_for_what_is_under_way.Goals as goal

pub returns : goal.returns
returns c = under_law
