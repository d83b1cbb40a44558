-- The limit of a chunk.
use Rattle.std.proofs.Common.{ℕ, ◌+◌, ◌^◌, ◌≤◌, arith}
use Rattle.std.proofs.Math.Pow.{pow_mono}

pub limit_some : (n : ℕ) → n ≤ 9 → 4 ≤ 2 ^ (n + 2)
limit_some n h =
    let e : 2 ≤ n + 2 = omega arith in
    pow_mono {i = 2} {j = n + 2} e

pub limit_few : (n : ℕ) → n ≤ 9 → 2 ^ (n + 2) ≤ 2048
limit_few n h =
    let e : n + 2 ≤ 11 = omega arith in
    pow_mono {i = n + 2} {j = 11} e
