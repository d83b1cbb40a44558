-- Bytes that are written as digits, piece by piece.
use Rattle.std.proofs.Common.{◌≡◌, ◌∙◌, refl, sym, ap, arith, ℕ, zero, suc, ◌+◌, ◌*◌, ◌-◌, ◌/◌, ◌%◌, ◌<◌, ◌==◌, ◌&&◌, Bool, true, inl, inr, List, [], ◌∷◌, ◌++◌, take, drop, length, length-drop, append_assoc}
use Rattle.std.specs.Prelude.{slice_index, nat_lt, if◌then◌else◌}
use Rattle.std.proofs.lemmas.Bool.{and_parts, cases_lt, eqb-true}
use Rattle.std.proofs.Math.Seq.{take-append_seam}
use Rattle.std.proofs.lemmas.List.{append-nil, drop_all, take-append-drop, take_all}
use borrow.Rule.Slice.PartMut.{put_mid}
use Rattle.hex.specs.Hex.{encode_with, encode_upper, upper_digits}
use Rattle.line_text.specs.Pairs.{all_byte_pairs}

encode_with-append : (t xs ys : List ℕ) → encode_with t (xs ++ ys) ≡ encode_with t xs ++ encode_with t ys
unfolding encode_with
encode_with-append t [] ys = refl
encode_with-append t (x ∷ xs) ys = ap (λ zs. slice_index t (x / 16) ∷ slice_index t (x % 16) ∷ zs) (encode_with-append t xs ys)

-- the digits of a piece, and then those of the others
pub in_pieces : (n : ℕ) (bytes : List ℕ) → encode_upper (take n bytes) ++ encode_upper (drop n bytes) ≡ encode_upper bytes
in_pieces n bytes = sym (encode_with-append upper_digits (take n bytes) (drop n bytes)) ∙ ap (λ l. encode_upper l) (take-append-drop n bytes)

-- a piece is added, and the others are left
pub piece_more : (out more all behind : List ℕ) → more ≡ out ++ encode_upper (take 64 behind) → out ++ encode_upper behind ≡ all
    → more ++ encode_upper (take (length behind - 64) (drop 64 behind)) ≡ all
piece_more out more all behind e inv =
    let t = take_all (length behind - 64) (drop 64 behind) (simp length-drop (omega arith)) in
    ap (λ l. more ++ encode_upper l) t
    ∙ ap (λ l. l ++ encode_upper (drop 64 behind)) e
    ∙ append_assoc out (encode_upper (take 64 behind)) (encode_upper (drop 64 behind))
    ∙ ap (λ l. out ++ l) (in_pieces 64 behind)
    ∙ inv

-- digits that are written behind those that stand at the front
pub both_written : (front rest back : List ℕ) (n : ℕ) → length front ≡ n → put_mid n (length (front ++ rest) - n) (front ++ rest) back ≡ front ++ back
both_written front rest back n h =
    let all : take n (front ++ rest) ≡ front = ap (λ (k : ℕ). take k (front ++ rest)) (sym h) ∙ take-append_seam front rest in
    let none : drop (length (front ++ rest) - n) (drop n (front ++ rest)) ≡ [] = drop_all (length (front ++ rest) - n) (drop n (front ++ rest)) (omega (arith, length-drop n (front ++ rest))) in
    ap (λ (l : List ℕ). l ++ (back ++ drop (length (front ++ rest) - n) (drop n (front ++ rest)))) all
    ∙ ap (λ (l : List ℕ). front ++ (back ++ l)) none
    ∙ ap (λ (l : List ℕ). front ++ l) (append-nil back)

-- the digits of whole blocks, and then those of the other bytes
pub blocks_and_rest : (bytes front back : List ℕ) (n : ℕ) → front ≡ encode_upper (take n bytes) → back ≡ encode_upper (take (length bytes - n) (drop n bytes)) → front ++ back ≡ encode_upper bytes
blocks_and_rest bytes front back n e f =
    let t = take_all (length bytes - n) (drop n bytes) (simp length-drop (omega arith)) in
    ap (λ (l : List ℕ). l ++ back) e ∙ ap (λ (l : List ℕ). encode_upper (take n bytes) ++ l) (f ∙ ap (λ (l : List ℕ). encode_upper l) t) ∙ in_pieces n bytes

-- the digits below a number are those that are made, which computes
abbrev made : ℕ → ℕ
made n = if nat_lt n 10 then 48 + n else 55 + n

abbrev all_made : ℕ → Bool
all_made zero = true
all_made (suc n) = (slice_index upper_digits n == made n) && all_made n

made_below : (n k : ℕ) → all_made n ≡ true → k < n → slice_index upper_digits k ≡ made k
made_below zero k h lt = absurd (omega arith)
made_below (suc n) k h lt =
    let parts = and_parts (slice_index upper_digits n == made n) (all_made n) h in
    elim (cases_lt k n) [
      | inl below ↦ made_below n k parts.1 below
      | inr top ↦
          let e : k ≡ n = omega arith in
          rw e (eqb-true _ _ parts.0)
    ]

pub digit_made : (n : ℕ) → n < 16 → made n ≡ slice_index upper_digits n
digit_made n h = sym (made_below 16 n refl h)

-- ---- the digits of all bytes stand in a table, which computes

abbrev are_byte_pairs : ℕ → Bool
are_byte_pairs zero = true
are_byte_pairs (suc n) = (slice_index all_byte_pairs (2 * n) == slice_index upper_digits (n / 16)) && ((slice_index all_byte_pairs (2 * n + 1) == slice_index upper_digits (n % 16)) && are_byte_pairs n)

byte_pairs_below : (n k : ℕ) → are_byte_pairs n ≡ true → k < n → (slice_index all_byte_pairs (2 * k) ≡ slice_index upper_digits (k / 16)) × (slice_index all_byte_pairs (2 * k + 1) ≡ slice_index upper_digits (k % 16))
byte_pairs_below zero k h lt = absurd (omega arith)
byte_pairs_below (suc n) k h lt =
    let parts = and_parts (slice_index all_byte_pairs (2 * n) == slice_index upper_digits (n / 16)) ((slice_index all_byte_pairs (2 * n + 1) == slice_index upper_digits (n % 16)) && are_byte_pairs n) h in
    let others = and_parts (slice_index all_byte_pairs (2 * n + 1) == slice_index upper_digits (n % 16)) (are_byte_pairs n) parts.1 in
    elim (cases_lt k n) [
      | inl below ↦ byte_pairs_below n k others.1 below
      | inr top ↦
          let e : k ≡ n = omega arith in
          rw e (eqb-true _ _ parts.0, eqb-true _ _ others.0)
    ]

pub high_at : (n : ℕ) → n < 256 → slice_index all_byte_pairs (2 * n) ≡ slice_index upper_digits (n / 16)
high_at n h = (byte_pairs_below 256 n refl h).0

pub low_at : (n : ℕ) → n < 256 → slice_index all_byte_pairs (2 * n + 1) ≡ slice_index upper_digits (n % 16)
low_at n h = (byte_pairs_below 256 n refl h).1
