use Rattle.sbp_laws.proofs.CauseTries as tries
use Rattle.sbp_laws.proofs.tried.cause_law_tried.Goals as goal

pub returns : goal.returns
returns c = tries.tried
