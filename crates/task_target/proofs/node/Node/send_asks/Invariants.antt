-- The requests before this one left.
use Rattle.std.proofs.Common.{◌≡◌, ◌+◌, ◌≤◌, drop}
use Rattle.task_target.specs.Nodes.{scene}
use Rattle.task_target.specs.Following.{asks_sent}
use Rattle.task_target.proofs.node.Node.send_asks.Given as goal

abbrev pub invariant-loop-asked : goal.invariant-loop-asked
invariant-loop-asked l = record {
  sent : asks_sent l.login l.is_status (drop l.asked-index l.asks) (scene l.self l.outbox) ≡ asks_sent l.login l.is_status l.asks (scene l.initial.self l.initial.outbox);
  count : l.self.layer.calls ≤ l.initial.self.layer.calls + l.asked-index;
}
