-- The list of two ORBs was tried.
use Rattle.agent_laws.proofs.Along.Worked.{tried}
use Rattle.agent_laws.proofs.growing.a_list_was_tried.Goals as goal

pub returns : goal.returns
returns c = tried
