use Rattle.std.proofs.Common.{length}
use Rattle.script_text.proofs.shape.+are_shaped.Given as goal

abbrev pub decreases-are_shaped : goal.decreases-are_shaped
decreases-are_shaped l = length l.columns.now
