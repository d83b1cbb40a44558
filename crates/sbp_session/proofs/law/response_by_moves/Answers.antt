use Rattle.sbp_session.proofs.Rows.{response_by_moves}
use Rattle.sbp_session.proofs.law.response_by_moves.Goals as goal

pub returns : goal.returns
returns c = response_by_moves
