use Rattle.sbp_bus.proofs.Leaving.{leaving_law}
use Rattle.sbp_bus.proofs.laws.leaving_packets_weigh.Goals as goal

pub returns : goal.returns
returns c = leaving_law
