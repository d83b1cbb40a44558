use Rattle.sbp_laws.proofs.JudgementTries as tries
use Rattle.sbp_laws.proofs.tried.judgement_law_tried.Goals as goal

pub returns : goal.returns
returns c = tries.tried
