use Rattle.std.proofs.Common.{arith}
use Rattle.task_target.proofs.Turns.{asked_all, asked_lost, asking}
use Rattle.task_target.proofs.node.Node.send_asks.Goals as goal

pub returns-then-not-branch-clause-step : goal.returns-then-not-branch-clause-step
returns-then-not-branch-clause-step c =
    asked_lost _ _ _ _ c.asked-item.result _ _ _ c.loop-asked-test.true c.asked-item.is c.loop-asked.invariant.sent c.in_ok-ask.field-0 c.in_ok-ask.ensures.step c.if-not-branch.true

pub loop-asked-preserved : goal.loop-asked-preserved
loop-asked-preserved c = record {
  sent = asking _ _ _ _ c.asked-item.result _ _ _ c.loop-asked-test.true c.asked-item.is c.loop-asked.invariant.sent c.in_ok-ask.field-0 c.in_ok-ask.ensures.step c.if-not-branch.false;
  count = omega (arith, c.loop-asked.invariant.count, c.ask.ensures.count);
}

pub returns-clause-step : goal.returns-clause-step
returns-clause-step c = asked_all _ _ _ _ _ _ c.loop-asked-test.false c.loop-asked.invariant.sent
