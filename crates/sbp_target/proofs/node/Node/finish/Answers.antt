use Rattle.sbp_target.proofs.Concluding.{concludes_none}
use Rattle.sbp_target.proofs.node.Node.finish.Goals as goal

pub returns-in-None-clause-step : goal.returns-in-None-clause-step
returns-in-None-clause-step g c = concludes_none _ _ _ _ _ _ c.in-None.is
