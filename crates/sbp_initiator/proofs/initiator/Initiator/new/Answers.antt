use Rattle.sbp_initiator.proofs.Sound.{new_sound}
use Rattle.sbp_initiator.proofs.initiator.Initiator.new.Goals as goal

pub invariant_of-result : goal.invariant_of-result
invariant_of-result c = rw c.first_state-state.ensures (new_sound c.args.number c.args.ready)
