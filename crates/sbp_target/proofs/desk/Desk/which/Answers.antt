use Rattle.std.proofs.Common.{arith}
use Rattle.sbp_target.proofs.desk.Desk.which.Goals as goal

pub returns-then-is_under_way-clause-which : goal.returns-then-is_under_way-clause-which
returns-then-is_under_way-clause-which c = grind arith
