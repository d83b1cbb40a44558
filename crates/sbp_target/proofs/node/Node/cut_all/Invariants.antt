-- The lists of the places before this one were cut.
use Rattle.std.proofs.Common.{◌≡◌, ◌-◌, length}
use Rattle.sbp_target.specs.Nodes.{scene}
use Rattle.sbp_target.specs.Units.{cut_from}
use Rattle.sbp_target.proofs.node.Node.cut_all.Given as goal

abbrev pub invariant-loop-place : goal.invariant-loop-place
invariant-loop-place l = record {
  done : cut_from (8 - l.place) l.place l.cause l.unit (scene l.self l.outbox) ≡ cut_from 8 0 l.cause l.unit (scene l.initial.self l.initial.outbox);
  count : l.self.layer.calls ≡ l.initial.self.layer.calls;
  units : length l.self.units ≡ length l.initial.self.units;
}
