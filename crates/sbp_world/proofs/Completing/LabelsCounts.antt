-- Counts of labels: where each that one test finds is found by another one, but for one label, the first finds one more at most; and what two tests part between them is all.
use Rattle.sbp_world.proofs.Words.Std.{arith, ◌≡◌, refl, ℕ, zero, suc, ◌+◌, ◌<◌, ◌≤◌, not, nat_eq, Bool, true, false, cond, nat_tests}
use Rattle.sbp_laws.specs.Packets.{free_from}
use Rattle.sbp_world.proofs.Common.{untrue}
use Rattle.sbp_world.proofs.Counting.WireWeights.{one_most}

abbrev one : Bool → ℕ
one b = cond b 1 0

one_more : (a b : Bool) → (a ≡ true → b ≡ true) → one a ≤ one b
one_more false b h = omega arith
one_more true true h = omega arith
one_more true false h = untrue (h refl)

pub count_more : (n : ℕ) (f g : ℕ → Bool) → ((l : ℕ) → l < n → f l ≡ true → g l ≡ true) → free_from n f ≤ free_from n g
unfolding free_from
count_more zero f g h = omega arith
count_more (suc n) f g h =
    let a = one_more (f n) (g n) (h n (omega arith)) in
    let b = count_more n f g (λ l c. h l (omega (arith, c))) in
    omega (arith, a, b)

-- all but one
pub count_but : (n k : ℕ) (f g : ℕ → Bool) → ((l : ℕ) → l < n → nat_eq l k ≡ false → f l ≡ true → g l ≡ true) → free_from n f ≤ free_from n g + 1
unfolding free_from
count_but zero k f g h = omega arith
count_but (suc n) k f g h = by (nat_eq n k) refl (count_but n k f g (λ l c. h l (omega (arith, c))))
  where
    by : (x : Bool) → nat_eq n k ≡ x → free_from n f ≤ free_from n g + 1 → one (f n) + free_from n f ≤ (one (g n) + free_from n g) + 1
    by true e rest =
        let is : n ≡ k = grind (arith, nat_tests) in
        let low = count_more n f g (λ l c. h l (omega (arith, c)) (other l c is)) in
        let most = one_most (f n) in
        omega (arith, low, most)
      where
        other : (l : ℕ) → l < n → n ≡ k → nat_eq l k ≡ false
        other l c is = grind (arith, nat_tests)
    by false e rest = let a = one_more (f n) (g n) (h n (omega arith) e) in omega (arith, a, rest)

-- those that are found, and those that are not
pub count_all : (n : ℕ) (f : ℕ → Bool) → free_from n f + free_from n (λ l. not (f l)) ≡ n
unfolding free_from
count_all zero f = refl
count_all (suc n) f = let a = count_all n f in let b = both (f n) in omega (arith, a, b)
  where
    both : (x : Bool) → one x + one (not x) ≡ 1
    both true = refl
    both false = refl
