use Rattle.sbp_session.proofs.Rows.{held_by_a_reset}
use Rattle.sbp_session.proofs.law.held_by_a_reset.Goals as goal

pub returns : goal.returns
returns c = held_by_a_reset
