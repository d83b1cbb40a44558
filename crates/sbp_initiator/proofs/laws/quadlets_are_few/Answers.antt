use Rattle.sbp_initiator.proofs.Quadlets.{quadlet_law}
use Rattle.sbp_initiator.proofs.laws.quadlets_are_few.Goals as goal

pub returns : goal.returns
returns c = quadlet_law
