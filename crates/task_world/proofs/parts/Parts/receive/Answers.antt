use Rattle.std.proofs.Common.{◌≡◌, refl, ◌-◌, ◌==◌, nat_lt, true, false}
use Rattle.sbp_world.proofs.Words.Std.{rules}
use Rattle.task_world.proofs.Received.{initiator_receives, nobody_receives, none_receives, target_receives}
use Rattle.task_world.proofs.parts.Parts.receive.Goals as goal

pub returns-in_default-clause-received : goal.returns-in_default-clause-received
returns-in_default-clause-received g c =
    rw (← c.self.view_is) (none_receives _ _ _ c.requires.outbox c.in_default.ensures)

pub returns-then-node-eq0-clause-received : goal.returns-then-node-eq0-clause-received
returns-then-node-eq0-clause-received g c =
    let z : (c.in-Some.sent.now.to == 0) ≡ true = search rules in
    rw (← c.self.view_is) (target_receives _ _ c.in-Some.sent.now _ _ _ _ c.in-Some.ensures z c.in_ok-judged.ensures.received)

pub returns-then-node-eq1-clause-received : goal.returns-then-node-eq1-clause-received
returns-then-node-eq1-clause-received g c =
    let one : c.in-Some.sent.now.to ≡ 1 = search rules in
    rw (← c.self.view_is) (initiator_receives _ _ c.in-Some.sent.now _ _ _ _ refl c.in-Some.ensures one c.in_ok-judged-2.ensures.received)

pub returns-clause-received : goal.returns-clause-received
returns-clause-received g c =
    let z : (c.in-Some.sent.now.to == 0) ≡ false = search rules in
    let out : nat_lt (c.in-Some.sent.now.to - 1) 1 ≡ false = search rules in
    rw (← c.self.view_is) (nobody_receives _ _ c.in-Some.sent.now _ c.requires.outbox c.in-Some.ensures z out)
