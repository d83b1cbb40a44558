use Rattle.sbp_laws.proofs.OthersTries as tries
use Rattle.sbp_laws.proofs.tried.others_tried.Goals as goal

pub returns : goal.returns
returns c = tries.tried
