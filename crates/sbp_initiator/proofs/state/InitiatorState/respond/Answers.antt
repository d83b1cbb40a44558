use Rattle.std.proofs.Common.{arith}
use Rattle.sbp_initiator.proofs.Layers.{answer_calls}
use Rattle.sbp_initiator.proofs.state.InitiatorState.respond.Goals as goal

pub returns-clause-labels : goal.returns-clause-labels
returns-clause-labels c = let e = answer_calls _ _ _ _ _ _ _ c.in_ok-response.ensures.step in omega (arith, e)
