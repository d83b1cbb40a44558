use Rattle.std.specs.Prelude.{length}
use Rattle.sbp_initiator.proofs.seeing.+tell_all.Given as goal

abbrev pub decreases-tell_all : goal.decreases-tell_all
decreases-tell_all l = length l.acts.now
