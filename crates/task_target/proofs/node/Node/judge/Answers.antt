use Rattle.task_target.proofs.node.Node.judge.Goals as goal

pub returns-clause-step : goal.returns-clause-step
returns-clause-step c = rw (← c.self.view_is) c.judge.ensures.step

pub returns-clause-lent : goal.returns-clause-lent
returns-clause-lent c = c.judge.ensures.lent
