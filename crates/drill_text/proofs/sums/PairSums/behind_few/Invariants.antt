-- What is left makes of the sum what all bytes make of the first one.
use Rattle.std.proofs.Common.{◌≡◌, ◌≤◌, ◌-◌, length, drop}
use Rattle.config_rom.specs.Sum.{quad_bits, register_after}
use Rattle.drill_text.specs.Sums.{quads_of}
use Rattle.drill_text.proofs.sums.PairSums.behind_few.Given as goal

abbrev pub invariant-loop-at : goal.invariant-loop-at
invariant-loop-at l = record {
  in_range : l.at ≤ length l.bytes;
  so_far : register_after l.sum (quad_bits (quads_of (drop l.at l.bytes))) ≡ register_after l.initial.sum (quad_bits (quads_of l.bytes));
}

abbrev pub decreases-loop-at : goal.decreases-loop-at
decreases-loop-at l = length l.bytes - l.at
