-- Sixteen bytes are four more quadlets.
use Rattle.std.proofs.Common.{◌∙◌, arith}
use Rattle.drill_text.proofs.sums.PairSums.register_behind.Goals as goal

pub loop-at-preserved : goal.loop-at-preserved
loop-at-preserved c = record {
  in_range = omega arith;
  so_far = c.behind_four_at-sum.ensures ∙ c.loop-at.invariant.so_far;
}
