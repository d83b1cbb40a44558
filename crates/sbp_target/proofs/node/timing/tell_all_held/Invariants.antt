-- The logins of the places before this one were told.
use Rattle.std.proofs.Common.{◌≡◌, ◌-◌}
use Rattle.sbp_target.specs.Receiving.{held_from}
use Rattle.sbp_target.proofs.node.timing.tell_all_held.Given as goal

abbrev pub invariant-loop-place : goal.invariant-loop-place
invariant-loop-place l = held_from (8 - l.place) l.place l.logins.places l.outbox ≡ held_from 8 0 l.logins.places l.initial.outbox
