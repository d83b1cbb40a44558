use Rattle.std.proofs.Common.{length, ◌-◌, ◌*◌}
use Rattle.page_table.proofs.table.SegmentTable.+fill.Given as goal

abbrev pub decreases-fill : goal.decreases-fill
decreases-fill l = length l.bytes.now - 8 * l.at
