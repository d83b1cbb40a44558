use Rattle.sbp_initiator.proofs.Histories.Takes.{takes_law}
use Rattle.sbp_initiator.proofs.laws.waiting_orbs_are_taken.Goals as goal

pub returns : goal.returns
returns c = takes_law
