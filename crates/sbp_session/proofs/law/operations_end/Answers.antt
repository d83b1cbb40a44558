use Rattle.sbp_session.proofs.Rows.{operations_end}
use Rattle.sbp_session.proofs.law.operations_end.Goals as goal

pub returns : goal.returns
returns c = operations_end
