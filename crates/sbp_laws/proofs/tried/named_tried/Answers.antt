use Rattle.sbp_laws.proofs.NamedTries as tries
use Rattle.sbp_laws.proofs.tried.named_tried.Goals as goal

pub returns : goal.returns
returns c = tries.tried
