use Rattle.sbp_laws.proofs.OwnTries as tries
use Rattle.sbp_laws.proofs.tried.own_words_tried.Goals as goal

pub returns : goal.returns
returns c = tries.tried
