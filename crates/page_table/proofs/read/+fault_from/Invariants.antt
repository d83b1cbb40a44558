use Rattle.std.proofs.Common.{length, ◌-◌, ◌*◌}
use Rattle.page_table.proofs.read.+fault_from.Given as goal

abbrev pub decreases-fault_from : goal.decreases-fault_from
decreases-fault_from l = length l.bytes.now - 8 * l.at
