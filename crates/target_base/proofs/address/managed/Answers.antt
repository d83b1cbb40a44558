use Rattle.std.proofs.Common.{arith}
use Rattle.target_base.proofs.Addressed.{managed_by}
use Rattle.target_base.proofs.address.managed.Goals as goal

pub returns-else-payload-ne8 : goal.returns-else-payload-ne8
returns-else-payload-ne8 c = rw c.in-WriteBlock.is (managed_by c.in-WriteBlock.header c.in-WriteBlock.offset _ _ (omega arith) c.address.ensures)
