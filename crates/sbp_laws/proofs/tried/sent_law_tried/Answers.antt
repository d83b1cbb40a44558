use Rattle.sbp_laws.proofs.SentTries as tries
use Rattle.sbp_laws.proofs.tried.sent_law_tried.Goals as goal

pub returns : goal.returns
returns c = tries.tried
