-- The logins before this one were told.
use Rattle.std.proofs.Common.{◌≡◌, ◌-◌, length}
use Rattle.sbp_target.specs.Receiving.{expired_from}
use Rattle.sbp_target.proofs.node.timing.tell_expired.Given as goal

abbrev pub invariant-loop-at : goal.invariant-loop-at
invariant-loop-at l = expired_from (length l.logins - l.at) l.at l.logins l.outbox ≡ expired_from (length l.logins) 0 l.logins l.initial.outbox
