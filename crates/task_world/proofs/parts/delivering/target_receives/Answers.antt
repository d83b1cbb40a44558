use Rattle.task_world.proofs.Received.{node_receives}
use Rattle.task_world.proofs.parts.delivering.target_receives.Goals as goal

pub returns-clause-received : goal.returns-clause-received
returns-clause-received g c =
    node_receives c.args.sent.now _ _ _ _ _ _ _ _ _ c.in_ok-judged.judged c.as_slice.ensures c.requires.outbox c.in_ok-judged.ensures.step
