use Rattle.sbp_initiator.proofs.Handing.{delivery_law}
use Rattle.sbp_initiator.proofs.laws.deliveries_ask_for_quadlets.Goals as goal

pub returns : goal.returns
returns c = delivery_law
