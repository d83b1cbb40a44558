-- Room of a fixed size, whose first items are used.
use Rattle.std.specs.Prelude.{◌≡◌, ◌≤◌, ℕ, List, length}

pub record IsRoom {A : Type 0} (size : ℕ) (room : List A) (used : ℕ) : Type 0 where
  pub whole : length room ≡ size
  pub within : used ≤ size
