use Rattle.sbp_initiator.proofs.Histories.Known.{mark_law}
use Rattle.sbp_initiator.proofs.laws.lists_are_known.Goals as goal

pub returns : goal.returns
returns c = mark_law
