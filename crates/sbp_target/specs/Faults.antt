-- The counts of faults of the media, before a call and after it.
use Rattle.std.specs.Prelude.{ℕ, ◌≤◌, List, slice_index}

-- No count of a medium fell.
pub record NoneFell (before now : List ℕ) : Type 0 where
  pub each : (unit : ℕ) → slice_index before unit ≤ slice_index now unit
