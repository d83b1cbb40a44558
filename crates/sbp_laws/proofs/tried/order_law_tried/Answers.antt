use Rattle.sbp_laws.proofs.OrderTries as tries
use Rattle.sbp_laws.proofs.tried.order_law_tried.Goals as goal

pub returns : goal.returns
returns c = tries.tried
