use Rattle.std.proofs.Common.{ℕ, ◌<◌, ◌≤◌, length}
use Rattle.std.specs.Prelude.{◌≢◌, slice_index_or}
use Rattle.packet_store.proofs.bags.spot_of.Given as goal

abbrev pub invariant-loop-at : goal.invariant-loop-at
invariant-loop-at l = record {
  inside : l.at ≤ length l.bag;
  none : (at d : ℕ) → l.at ≤ at → at < length l.bag → slice_index_or l.bag at d ≢ l.key;
}

abbrev pub decreases-loop-at : goal.decreases-loop-at
decreases-loop-at l = l.at
