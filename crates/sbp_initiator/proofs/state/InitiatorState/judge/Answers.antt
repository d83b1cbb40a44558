use Rattle.sbp_initiator.proofs.Again.{again_clause}
use Rattle.sbp_initiator.proofs.Layers.{judged_same}
use Rattle.sbp_initiator.proofs.state.InitiatorState.judge.Goals as goal

pub returns-clause-same : goal.returns-clause-same
returns-clause-same c = judged_same _ _ _ _ _ c.judge.ensures.step

pub returns-clause-again : goal.returns-clause-again
returns-clause-again c = again_clause _ _ _ _ _ c.judge.ensures.step c.judge.ensures.lent
