-- The sums so far are those over each two bytes of which the first is zero.
use Rattle.std.proofs.Common.{◌≡◌, ℕ, ◌<◌, [], ◌∷◌, length, get_or}
use Rattle.config_rom.specs.Sum.{sum_of}
use Rattle.drill_text.proofs.sums.low_sums.Given as goal

abbrev pub invariant-loop-low : goal.invariant-loop-low
invariant-loop-low l = record {
  count : length l.sums ≡ 256;
  each : (low : ℕ) → low < l.low → get_or l.sums low 0 ≡ sum_of (low ∷ []);
}
