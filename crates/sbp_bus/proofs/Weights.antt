-- The transfers of a buffer are few.
use Rattle.std.specs.Prelude.{ℕ, ◌+◌, ◌/◌, ◌^◌, ◌≤◌}
use Rattle.std.proofs.Common.{arith}
use Rattle.std.proofs.Math.Nat.{div-le_self}
use Rattle.std.proofs.Math.Pow.{pow_mono}

pub div_below : (n k : ℕ) → n / k ≤ n
div_below n k = div-le_self n k

pub size_some : (n : ℕ) → 1 ≤ 2 ^ (n + 2)
size_some n =
    let e : 0 ≤ n + 2 = omega arith in
    pow_mono {i = 0} {j = n + 2} e

pub size_few : (n : ℕ) → n ≤ 15 → 2 ^ (n + 2) ≤ 2 ^ 17
size_few n h =
    let e : n + 2 ≤ 17 = omega arith in
    pow_mono {i = n + 2} {j = 17} e
