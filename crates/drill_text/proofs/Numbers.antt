-- Numbers in decimal digits without a leading zero.
use Rattle.std.proofs.Common.{◌≡◌, ◌≢◌, ◌∙◌, refl, sym, ap, subst, ℕ, zero, suc, ◌^◌, ◌<◌, ◌≤◌, ◌⊎◌, inl, inr, true, false, List, [], ◌∷◌, map, codes, length, get_or, Result, Ok, Err, arith}
use Rattle.std.specs.Prelude.{IfSome, IfNone}
use Rattle.std.specs.Result.{OkIff, result_ok}
use Rattle.std.specs.Fmt.{decimal}
use Rattle.std.specs.Str.Parse.{AllDigits, ParsesUnsigned, digits_value}
use Rattle.std.proofs.lemmas.Fmt.{decimal-digits_value, decimal_digit, decimal_injective, decimal_nonempty, digits_decimal, first_decimal, parse-decimal}
use Rattle.std.proofs.lemmas.Str.Parse.{IsNumeralModel, not_in_digits, numerals_by_value, parse_plain, tells_digits}
use Rattle.std.proofs.lemmas.Bool.Decides.{nat_tests}
use Rattle.drill_text.specs.Words.{IsDrill, is_plain}

own : IsNumeralModel (AllDigits 10) (digits_value 10)
own = numerals_by_value (AllDigits 10) tells_digits

record Plain (word : List ℕ) : Type 0 where
  some : 0 < length word
  no_sign : get_or word 0 0 ≢ 43
  no_zero : get_or word 0 0 ≡ 48 → length word ≡ 1

plain_parts : (word : List ℕ) → is_plain word ≡ true → Plain word
plain_parts word h = record { some = grind (arith, nat_tests); no_sign = grind (arith, nat_tests); no_zero = grind (arith, nat_tests) }

plain_test : (word : List ℕ) → 0 < length word → get_or word 0 0 ≢ 43 → get_or word 0 0 ≢ 48 → is_plain word ≡ true
plain_test word h k l = grind (arith, nat_tests)

decimal_is_plain : (n : ℕ) → n < 2 ^ 64 → is_plain (decimal n) ≡ true
decimal_is_plain zero h = ap is_plain (decimal_digit 0 (omega arith))
decimal_is_plain (suc n) h =
    let some = decimal_nonempty (suc n) h in
    let first = first_decimal (suc n) (omega arith) h in
    let no_sign : get_or (decimal (suc n)) 0 0 ≢ 43 = not_in_digits own (decimal (suc n)) 43 (digits_decimal own (suc n) h) (λ r. absurd (omega (arith, r.0))) 0 some in
    let no_zero : get_or (decimal (suc n)) 0 0 ≢ 48 = omega arith in
    plain_test (decimal (suc n)) some no_sign no_zero

-- what was read is what is written
abbrev IsRead : List ℕ → ℕ → Type 0
IsRead word n = (word ≡ decimal n) × (n < 2 ^ 64)

pub read_some : {E : Type 0} (word : List ℕ) (r : Result ℕ E) → is_plain word ≡ true → ParsesUnsigned 64 10 word r → IfSome (result_ok r) (λ n. (word ≡ decimal n) × (n < 2 ^ 64))
read_some word r h p =
    let plain = plain_parts word h in
    by_result plain r (parse_plain own 64 word r p plain.no_sign)
  where
    by_result : {E : Type 0} → Plain word → (r : Result ℕ E) → OkIff r (AllDigits 10 word × (0 < length word) × (digits_value 10 word < 2 ^ 64)) (digits_value 10 word) → IfSome (result_ok r) (IsRead word)
    by_result plain (Ok n) q = (sym (decimal-digits_value own word q.0.0 q.0.1 plain.no_zero q.0.2) ∙ ap decimal (sym q.1), subst (λ k. k < 2 ^ 64) (sym q.1) q.0.2)
    by_result plain (Err e) q = tt

-- a word that is not plain is none that is written
pub not_plain : (word : List ℕ) → is_plain word ≡ false → (n : ℕ) → n < 2 ^ 64 → ¬ (word ≡ decimal n)
not_plain word h = λ n small e. (let t : true ≡ false = sym (decimal_is_plain n small) ∙ ap is_plain (sym e) ∙ h in absurd (cc t))

-- nor is one that was not read
pub read_none : {E : Type 0} (word : List ℕ) (r : Result ℕ E) → ParsesUnsigned 64 10 word r → IfNone (result_ok r) ((n : ℕ) → n < 2 ^ 64 → ¬ (word ≡ decimal n))
read_none word (Ok n) p = tt
read_none word (Err e) p = λ n small same. (let never : Err e ≡ Ok n = parse-decimal 64 n word (Err e) small small same p in absurd (cc never))

-- ---- the words of a drill

pub three_words : {A : Type 0} (f : A → List ℕ) (xs : List A) (x y z : A) → 3 ≤ length xs → length xs < 4 → x ≡ get_or xs 0 x → y ≡ get_or xs 1 y → z ≡ get_or xs 2 z → map f xs ≡ f x ∷ f y ∷ f z ∷ []
three_words f [] x y z some few i j k = absurd (omega arith)
three_words f (a ∷ []) x y z some few i j k = absurd (omega arith)
three_words f (a ∷ b ∷ []) x y z some few i j k = absurd (omega arith)
three_words f (a ∷ b ∷ c ∷ []) x y z some few i j k = rw (i, j, k) refl
three_words f (a ∷ b ∷ c ∷ d ∷ xs) x y z some few i j k = absurd (omega arith)

pub drill_are : (words : List (List ℕ)) (w s n : List ℕ) (seed count : ℕ) → words ≡ w ∷ s ∷ n ∷ [] → w ≡ codes "drill" → (s ≡ decimal seed) × (seed < 2 ^ 64) → n ≡ decimal count → 1 ≤ count → count ≤ 10000 → IsDrill words seed count
drill_are words w s n seed count e f g h some few = record {
  words_are = e ∙ ap (λ k. k ∷ s ∷ n ∷ []) f ∙ ap (λ k. codes "drill" ∷ k ∷ n ∷ []) g.0 ∙ ap (λ k. codes "drill" ∷ decimal seed ∷ k ∷ []) h;
  seed_fits = g.1;
  some = some;
  few = few;
}

pub no_drill : (words : List (List ℕ)) (w s n : List ℕ) (read : ℕ) → words ≡ w ∷ s ∷ n ∷ [] → (n ≡ decimal read) × (read < 2 ^ 64) → (read < 1) ⊎ ((1 ≤ read) × (10000 < read)) → (seed count : ℕ) → ¬ IsDrill words seed count
no_drill words w s n read e h out seed count = λ drill.
    let few = drill.few in
    let some = drill.some in
    let same : w ∷ s ∷ n ∷ [] ≡ codes "drill" ∷ decimal seed ∷ decimal count ∷ [] = sym e ∙ drill.words_are in
    let last : n ≡ decimal count = cc same in
    let counts : read ≡ count = decimal_injective read count h.1 (omega arith) (sym h.0 ∙ last) in
    elim out [ inl k ↦ omega arith | inr k ↦ omega arith ]
