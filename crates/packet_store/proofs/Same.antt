-- Tests of two numbers for being the same, and of a truth value with a known one.
use Rattle.std.proofs.Common.{◌≡◌, refl, ℕ, Bool, true, false, arith}
use Rattle.std.specs.Prelude.{◌≢◌, ◌==◌, ◌&&◌}
use Rattle.std.proofs.lemmas.Bool.Decides.{nat_tests}

pub equal_of : (s q : ℕ) → (s == q) ≡ true → s ≡ q
equal_of s q e = grind (arith, nat_tests)

pub unequal_of : (s q : ℕ) → (s == q) ≡ false → s ≢ q
unequal_of s q e eq = absurd (grind (arith, nat_tests))

pub same_test : (s : ℕ) → (s == s) ≡ true
same_test s = grind (arith, nat_tests)

pub differs : (s q : ℕ) → s ≢ q → (s == q) ≡ false
differs s q ne = grind (arith, nat_tests)

pub and_true : (b : Bool) → (b && true) ≡ b
and_true true = refl
and_true false = refl

pub and_false : (b : Bool) → (b && false) ≡ false
and_false true = refl
and_false false = refl
