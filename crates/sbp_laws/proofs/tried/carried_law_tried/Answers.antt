use Rattle.sbp_laws.proofs.CarriedTries as tries
use Rattle.sbp_laws.proofs.tried.carried_law_tried.Goals as goal

pub returns : goal.returns
returns c = tries.tried
