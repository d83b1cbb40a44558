-- Small cases: numbers that are equal or not, and functions that changed at one argument, or at two.
use Rattle.std.proofs.Common.{arith, ◌≡◌, refl, ap, ℕ, suc, ◌<◌, nat_eq, Bool, true, false, cond, List, [], ◌∷◌, length, take, Some, None}
use Rattle.std.specs.Prelude.{◌==◌, if◌then◌else◌}
use Rattle.std.proofs.lemmas.Bool.Decides.{nat_tests}
use Rattle.sbp_base.specs.Update.{upd}

pub both_ways : (b : Bool) → b ≡ true → b ≡ false → ⊥
both_ways true e f = cc f
both_ways false e f = cc e

pub some_is : {A : Type 0} (a b : A) → Some a ≡ Some b → a ≡ b
some_is a b e = cc

pub none_is : {A : Type 0} (a : A) → None ≡ Some a → ⊥
none_is a e = cc

pub not_own : (i : ℕ) → suc i ≡ 0 → ⊥
not_own i e = omega arith

pub take_whole : (bytes : List ℕ) → take (length bytes) bytes ≡ bytes
take_whole [] = refl
take_whole (byte ∷ bytes) = ap (λ rest. byte ∷ rest) (take_whole bytes)

-- ---- tests of numbers

pub not_first : {A : Type 0} (j : ℕ) (a b : A) → (if suc j == 0 then a else b) ≡ b
not_first j a b = by (suc j == 0) refl
  where
    by : (c : Bool) → (suc j == 0) ≡ c → (if c then a else b) ≡ b
    by true e = absurd (grind (arith, nat_tests))
    by false e = refl

pub other : (i : ℕ) → nat_eq 0 (suc i) ≡ false
other i = by (nat_eq 0 (suc i)) refl
  where
    by : (b : Bool) → nat_eq 0 (suc i) ≡ b → b ≡ false
    by true e = absurd (let no_other : 0 ≡ suc i = grind (arith, nat_tests) in omega (arith, no_other))
    by false e = refl

pub no_other : (i : ℕ) → nat_eq (suc i) 0 ≡ false
no_other i = by (nat_eq (suc i) 0) refl
  where
    by : (b : Bool) → nat_eq (suc i) 0 ≡ b → b ≡ false
    by true e = absurd (let no_number : suc i ≡ 0 = grind (arith, nat_tests) in omega (arith, no_number))
    by false e = refl

pub skips : {A : Type 0} (b : Bool) (x y : A) → b ≡ false → cond b x y ≡ y
skips true x y e = absurd (cc e)
skips false x y e = refl

pub by_one : (P : Bool → Type 0) (m n : ℕ) → (m ≡ n → P true) → ((m ≡ n → ⊥) → P false) → P (nat_eq m n)
by_one P m n here other = by (nat_eq m n) refl
  where
    by : (b : Bool) → nat_eq m n ≡ b → P b
    by true e = here (grind (arith, nat_tests))
    by false e = other (λ same. grind (arith, nat_tests))

pub by_two : (P : Bool → Bool → Type 0) (m n l k : ℕ) → (m ≡ n → l ≡ k → P true true) → (m ≡ n → P true false) → ((c : Bool) → P false c) → P (nat_eq m n) (nat_eq l k)
by_two P m n l k both first other = by (nat_eq m n) (nat_eq l k) refl refl
  where
    by : (b c : Bool) → nat_eq m n ≡ b → nat_eq l k ≡ c → P b c
    by true true e f = both (grind (arith, nat_tests)) (grind (arith, nat_tests))
    by true false e f = first (grind (arith, nat_tests))
    by false c e f = other c

-- what stands below the argument at which a function changed stays
pub older : {A : Type 0} (f : ℕ → A) (count : ℕ) (x : A) (q : ℕ) → q < count → upd f count x q ≡ f q
older f count x q less = by_one (λ b. cond b x (f q) ≡ f q) q count (λ e. absurd (omega (arith, e, less))) (λ e. refl)
