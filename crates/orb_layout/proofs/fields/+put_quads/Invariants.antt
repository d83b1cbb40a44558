use Rattle.std.proofs.Common.{length}
use Rattle.orb_layout.proofs.fields.+put_quads.Given as goal

abbrev pub decreases-put_quads : goal.decreases-put_quads
decreases-put_quads l = length l.quads.now
