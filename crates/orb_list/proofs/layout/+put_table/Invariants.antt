use Rattle.std.proofs.Common.{length}
use Rattle.orb_list.proofs.layout.+put_table.Given as goal

abbrev pub decreases-put_table : goal.decreases-put_table
decreases-put_table l = length l.segments.now
