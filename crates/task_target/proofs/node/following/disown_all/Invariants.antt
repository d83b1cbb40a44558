-- The transactions before this one belong to nobody.
use Rattle.std.proofs.Common.{◌≡◌, drop}
use Rattle.task_target.specs.Following.{all_disowned}
use Rattle.task_target.proofs.node.following.disown_all.Given as goal

abbrev pub invariant-loop-sent : goal.invariant-loop-sent
invariant-loop-sent l = record {
  left : all_disowned (drop l.sent-index l.sents) l.layer ≡ all_disowned l.sents l.initial.layer;
  count : l.layer.calls ≡ l.initial.layer.calls;
}
