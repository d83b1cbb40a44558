-- The budget of a `settle`.
use Rattle.sbp_world.proofs.Words.Std.{arith}
use Rattle.std.specs.Prelude.{◌≡◌, ℕ, ◌+◌, ◌*◌, min}

pub budget_is : (flying weight nodes : ℕ) → min (4 * min flying 10_000_000 + min weight 10_000_000 + 600 * nodes) 10_000_000 ≡ min (4 * flying + weight + 600 * nodes) 10_000_000
budget_is flying weight nodes = grind arith
