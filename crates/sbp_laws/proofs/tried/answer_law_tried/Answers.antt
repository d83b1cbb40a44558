use Rattle.sbp_laws.proofs.AnswerTries as tries
use Rattle.sbp_laws.proofs.tried.answer_law_tried.Goals as goal

pub returns : goal.returns
returns c = tries.tried
