use Rattle.sbp_target.proofs.node.Node.access.Goals as goal

pub returns-in-Enable-clause-step : goal.returns-in-Enable-clause-step
returns-in-Enable-clause-step c = rw c.in-Enable.is c.enable.ensures.step

pub returns-in-Point-clause-step : goal.returns-in-Point-clause-step
returns-in-Point-clause-step c = rw c.in-Point.is c.point.ensures.step

pub returns-in-Ring-clause-step : goal.returns-in-Ring-clause-step
returns-in-Ring-clause-step c = rw c.in-Ring.is c.ring.ensures.step
