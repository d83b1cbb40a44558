use Rattle.sbp_session.proofs.Latest.{response_of_latest_login}
use Rattle.sbp_session.proofs.law.response_of_latest_login.Goals as goal

pub returns : goal.returns
returns c = response_of_latest_login
