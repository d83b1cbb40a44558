-- The pointer that the 8 bytes of an address below 2^32 spell.
use Rattle.sbp_world.proofs.Words.Std.{arith, ◌≡◌, ap, ℕ, ◌/◌, ◌<◌, ◌^◌, ◌==◌, false, nat_tests, big_bytes, quad}
use Rattle.sbp_world.proofs.Words.Initiator.{At, offset_at, pointer_at}

pub eight_pointer : (x : ℕ) → x < 2 ^ 32 → pointer_at (big_bytes 8 x) 0 ≡ At x
eight_pointer x small =
    let bytes = big_bytes 8 x in
    let some : (quad bytes 0 / 2 ^ 31 == 1) ≡ false = grind (arith, nat_tests) in
    let place : offset_at bytes 0 ≡ x = omega arith in
    rw some (ap (λ (n : ℕ). At n) place)
