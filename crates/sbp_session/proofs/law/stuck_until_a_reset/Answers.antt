use Rattle.sbp_session.proofs.Rows.{stuck_until_a_reset}
use Rattle.sbp_session.proofs.law.stuck_until_a_reset.Goals as goal

pub returns : goal.returns
returns c = stuck_until_a_reset
