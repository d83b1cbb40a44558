-- The units before this one were reset.
use Rattle.std.proofs.Common.{◌≡◌, ◌-◌, length}
use Rattle.sbp_target.specs.Nodes.{scene}
use Rattle.sbp_target.specs.Units.{clear_from}
use Rattle.sbp_target.proofs.node.Node.clear_all.Given as goal

abbrev pub invariant-loop-unit : goal.invariant-loop-unit
invariant-loop-unit l = record {
  done : clear_from (length l.initial.self.units - l.unit) l.unit (scene l.self l.outbox) ≡ clear_from (length l.initial.self.units) 0 (scene l.initial.self l.initial.outbox);
  count : l.self.layer.calls ≡ l.initial.self.layer.calls;
  units : length l.self.units ≡ length l.initial.self.units;
}
