-- The digits of a number in decimal, by pairs.
use Rattle.std.proofs.Common.{◌≡◌, ◌∙◌, refl, ap, arith, ℕ, zero, suc, ◌==◌, ◌&&◌, Bool, true, inl, inr, ◌+◌, ◌*◌, ◌/◌, ◌%◌, ◌^◌, ◌<◌, ◌≤◌, List, [], ◌∷◌, ◌++◌, length, append_assoc}
use Rattle.std.specs.Fmt.{decimal}
use Rattle.std.specs.Prelude.{slice_index}
use Rattle.std.proofs.lemmas.Bool.{and_parts, cases_lt, eqb-true}
use Rattle.line_text.specs.Pairs.{all_pairs}
use Rattle.std.proofs.lemmas.Fmt.{decimal_digit, decimal_step, length-decimal-le}

pub digits_few : (n : ℕ) → n < 2 ^ 64 → length (decimal n) ≤ 20
digits_few n h = length-decimal-le 20 n (omega arith) (omega (arith, h)) h

pub two_digits : (n : ℕ) → 10 ≤ n → n < 100 → decimal n ≡ (48 + n / 10) ∷ (48 + n % 10) ∷ []
two_digits n low high =
    decimal_step n low (omega arith) ∙ ap (λ front. front ++ (48 + n % 10) ∷ []) (decimal_digit (n / 10) (omega arith))

pub three_digits : (n : ℕ) → 100 ≤ n → n < 1000 → decimal n ≡ (48 + n / 100) ∷ (48 + n % 100 / 10) ∷ (48 + n % 100 % 10) ∷ []
three_digits n low high =
    let a : n / 10 / 10 ≡ n / 100 = omega arith in
    let b : n / 10 % 10 ≡ n % 100 / 10 = omega arith in
    let c : n % 10 ≡ n % 100 % 10 = omega arith in
    decimal_step n (omega arith) (omega arith)
    ∙ ap (λ front. front ++ (48 + n % 10) ∷ []) (two_digits (n / 10) (omega arith) (omega arith))
    ∙ ap (λ (x : ℕ). (48 + x) ∷ (48 + n / 10 % 10) ∷ (48 + n % 10) ∷ []) a
    ∙ ap (λ (x : ℕ). (48 + n / 100) ∷ (48 + x) ∷ (48 + n % 10) ∷ []) b
    ∙ ap (λ (x : ℕ). (48 + n / 100) ∷ (48 + n % 100 / 10) ∷ (48 + x) ∷ []) c

-- the four digits of a number below ten thousand, leading zeros too
abbrev pub four : ℕ → List ℕ
four n = (48 + n / 100 / 10) ∷ (48 + n / 100 % 10) ∷ (48 + n % 100 / 10) ∷ (48 + n % 100 % 10) ∷ []

pub four_digits : (n : ℕ) → 1000 ≤ n → n < 10000 → decimal n ≡ four n
four_digits n low high =
    let a : n / 10 / 100 ≡ n / 100 / 10 = omega arith in
    let b : n / 10 % 100 / 10 ≡ n / 100 % 10 = omega arith in
    let c : n / 10 % 100 % 10 ≡ n % 100 / 10 = omega arith in
    let d : n % 10 ≡ n % 100 % 10 = omega arith in
    decimal_step n (omega arith) (omega arith)
    ∙ ap (λ front. front ++ (48 + n % 10) ∷ []) (three_digits (n / 10) (omega arith) (omega arith))
    ∙ ap (λ (x : ℕ). (48 + x) ∷ (48 + n / 10 % 100 / 10) ∷ (48 + n / 10 % 100 % 10) ∷ (48 + n % 10) ∷ []) a
    ∙ ap (λ (x : ℕ). (48 + n / 100 / 10) ∷ (48 + x) ∷ (48 + n / 10 % 100 % 10) ∷ (48 + n % 10) ∷ []) b
    ∙ ap (λ (x : ℕ). (48 + n / 100 / 10) ∷ (48 + n / 100 % 10) ∷ (48 + x) ∷ (48 + n % 10) ∷ []) c
    ∙ ap (λ (x : ℕ). (48 + n / 100 / 10) ∷ (48 + n / 100 % 10) ∷ (48 + n % 100 / 10) ∷ (48 + x) ∷ []) d

-- the last four digits come behind those of the front
pub front_and_four : (n : ℕ) → 10000 ≤ n → n < 2 ^ 64 → decimal n ≡ decimal (n / 10000) ++ four (n % 10000)
front_and_four n low high =
    let one = decimal_step n (omega arith) high in
    let two = decimal_step (n / 10) (omega arith) (omega (arith, high)) in
    let three = decimal_step (n / 10 / 10) (omega arith) (omega (arith, high)) in
    let last = decimal_step (n / 10 / 10 / 10) (omega arith) (omega (arith, high)) in
    let a : n / 10 / 10 / 10 / 10 ≡ n / 10000 = omega arith in
    let b : n / 10 / 10 / 10 % 10 ≡ n % 10000 / 100 / 10 = omega arith in
    let c : n / 10 / 10 % 10 ≡ n % 10000 / 100 % 10 = omega arith in
    let d : n / 10 % 10 ≡ n % 10000 % 100 / 10 = omega arith in
    let e : n % 10 ≡ n % 10000 % 100 % 10 = omega arith in
    rw (one, two, three, last, a, b, c, d, e) (simp append_assoc)

-- ---- the digits of all numbers below a hundred, which compute

abbrev are_pairs : ℕ → Bool
are_pairs zero = true
are_pairs (suc n) = (slice_index all_pairs (2 * n) == 48 + n / 10) && ((slice_index all_pairs (2 * n + 1) == 48 + n % 10) && are_pairs n)

pairs_below : (n k : ℕ) → are_pairs n ≡ true → k < n → (slice_index all_pairs (2 * k) ≡ 48 + k / 10) × (slice_index all_pairs (2 * k + 1) ≡ 48 + k % 10)
pairs_below zero k h lt = absurd (omega arith)
pairs_below (suc n) k h lt =
    let parts = and_parts (slice_index all_pairs (2 * n) == 48 + n / 10) ((slice_index all_pairs (2 * n + 1) == 48 + n % 10) && are_pairs n) h in
    let others = and_parts (slice_index all_pairs (2 * n + 1) == 48 + n % 10) (are_pairs n) parts.1 in
    elim (cases_lt k n) [
      | inl below ↦ pairs_below n k others.1 below
      | inr top ↦
          let e : k ≡ n = omega arith in
          rw e (eqb-true _ _ parts.0, eqb-true _ _ others.0)
    ]

pub tens_at : (n : ℕ) → n < 100 → slice_index all_pairs (2 * n) ≡ 48 + n / 10
tens_at n h = (pairs_below 100 n refl h).0

pub ones_at : (n : ℕ) → n < 100 → slice_index all_pairs (2 * n + 1) ≡ 48 + n % 10
ones_at n h = (pairs_below 100 n refl h).1
