-- Decimal digits, read one by one.
use Rattle.std.proofs.Common.{◌≡◌, ap, ℕ, suc, ◌+◌, ◌-◌, ◌*◌, ◌<◌, ◌≤◌, ◌^◌, List, [], ◌∷◌, length, drop, get_or, fold, drop-cons, arith}

-- one more digit
abbrev pub step : ℕ → ℕ → ℕ
step number digit = 10 * number + (digit - 48)

-- a number never falls by further digits
pub digits_grow : (number : ℕ) (digits : List ℕ) → number ≤ fold step number digits
digits_grow number [] = omega arith
digits_grow number (digit ∷ digits) = omega (arith, digits_grow (step number digit) digits)

-- digits that are past 32 bits somewhere are past them at the end
pub past_range : (number : ℕ) (digits : List ℕ) (index last : ℕ) → index < length digits → fold step number (drop index digits) ≡ last → 2 ^ 32 ≤ step number (get_or digits index 0) → 2 ^ 32 ≤ last
past_range number digits index last within e l =
    let first : fold step number (drop index digits) ≡ fold step (step number (get_or digits index 0)) (drop (suc index) digits) = ap (fold step number) (drop-cons digits index 0 within) in
    omega (arith, digits_grow (step number (get_or digits index 0)) (drop (suc index) digits))
