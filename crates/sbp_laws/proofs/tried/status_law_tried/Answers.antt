use Rattle.sbp_laws.proofs.StatusTries as tries
use Rattle.sbp_laws.proofs.tried.status_law_tried.Goals as goal

pub returns : goal.returns
returns c = tries.tried
