use Rattle.sbp_world.proofs.Received.{target_receives}
use Rattle.sbp_world.proofs.parts.delivering.target_receives.Goals as goal

pub returns-clause-received : goal.returns-clause-received
returns-clause-received g c =
    target_receives c.args.sent.now _ _ _ c.in_ok-judged.judged _ _ c.as_slice.ensures c.in_ok-judged.ensures.step c.requires.outbox
