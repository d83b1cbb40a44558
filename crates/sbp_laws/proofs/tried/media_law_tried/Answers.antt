use Rattle.sbp_laws.proofs.MediaTries as tries
use Rattle.sbp_laws.proofs.tried.media_law_tried.Goals as goal

pub returns : goal.returns
returns c = tries.tried
