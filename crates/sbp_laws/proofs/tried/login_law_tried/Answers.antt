use Rattle.sbp_laws.proofs.LoginTries as tries
use Rattle.sbp_laws.proofs.tried.login_law_tried.Goals as goal

pub returns : goal.returns
returns c = tries.tried
