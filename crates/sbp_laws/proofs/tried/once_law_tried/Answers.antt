use Rattle.sbp_laws.proofs.OnceTries as tries
use Rattle.sbp_laws.proofs.tried.once_law_tried.Goals as goal

pub returns : goal.returns
returns c = tries.tried
