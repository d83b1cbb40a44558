-- The sums so far are those over each two bytes.
use Rattle.std.proofs.Common.{◌≡◌, ℕ, ◌+◌, ◌*◌, ◌<◌, [], ◌∷◌, length, get_or}
use Rattle.config_rom.specs.Sum.{sum_of}
use Rattle.drill_text.proofs.sums.PairSums.new.Given as goal

abbrev pub invariant-loop-high : goal.invariant-loop-high
invariant-loop-high l = record {
  count : length l.sums.items ≡ l.high * 256;
  each : (pair : ℕ) → pair < l.high * 256 → get_or l.sums.items pair 0 ≡ sum_of (pair ∷ []);
}

abbrev pub invariant-loop-low : goal.invariant-loop-low
invariant-loop-low l = record {
  count : length l.sums.items ≡ l.high * 256 + l.low-index;
  each : (pair : ℕ) → pair < l.high * 256 + l.low-index → get_or l.sums.items pair 0 ≡ sum_of (pair ∷ []);
}
