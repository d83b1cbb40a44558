-- The places before this one were told.
use Rattle.std.proofs.Common.{◌≡◌, ◌+◌, ◌-◌, ◌≤◌, length}
use Rattle.sbp_target.specs.Nodes.{scene}
use Rattle.sbp_target.specs.Units.{announce_from}
use Rattle.sbp_target.proofs.node.Node.announce_all.Given as goal

abbrev pub invariant-loop-place : goal.invariant-loop-place
invariant-loop-place l = record {
  told : announce_from (8 - l.place) l.place l.unit l.from (scene l.self l.outbox) ≡ announce_from 8 0 l.unit l.from (scene l.initial.self l.initial.outbox);
  count : l.self.layer.calls ≤ l.initial.self.layer.calls + l.place;
  units : length l.self.units ≡ length l.initial.self.units;
}
