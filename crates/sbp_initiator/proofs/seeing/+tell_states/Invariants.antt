use Rattle.std.specs.Prelude.{length}
use Rattle.sbp_initiator.proofs.seeing.+tell_states.Given as goal

abbrev pub decreases-tell_states : goal.decreases-tell_states
decreases-tell_states l = length l.acts.now
