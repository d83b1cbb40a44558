use Rattle.sbp_world.proofs.Agents.Runs.{labels_between_law}
use Rattle.sbp_world.proofs.of_agents.deliveries_keep_labels_new.Goals as goal

-- src/laws.rt:105:1
pub returns : goal.returns
returns c = labels_between_law
