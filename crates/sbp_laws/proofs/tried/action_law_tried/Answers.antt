use Rattle.sbp_laws.proofs.ActionTries as tries
use Rattle.sbp_laws.proofs.tried.action_law_tried.Goals as goal

pub returns : goal.returns
returns c = tries.tried
