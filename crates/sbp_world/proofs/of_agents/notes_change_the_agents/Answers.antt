use Rattle.sbp_world.proofs.Agents.Notes.{notes_law}
use Rattle.sbp_world.proofs.of_agents.notes_change_the_agents.Goals as goal

-- src/laws.rt:29:1
pub returns : goal.returns
returns c = notes_law
