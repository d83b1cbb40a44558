use Rattle.sbp_laws.proofs.Orders as proofs
use Rattle.sbp_laws.proofs.laws.ends_in_order.Goals as goal

pub returns : goal.returns
returns c = proofs.ends_in_order
