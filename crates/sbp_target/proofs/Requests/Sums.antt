-- Sums over the places below a number.
use Rattle.std.proofs.Common.{arith, ◌≡◌, ◌≢◌, ap, ℕ, zero, suc, ◌+◌, ◌<◌, ◌≤◌, nat_eq}
use Rattle.sbp_target.specs.RequestsLeft.{sum_below}
use Rattle.sbp_target.proofs.Histories.Following.{other_place, same_place}
use Rattle.sbp_target.proofs.Histories.Seats.{split}

pub sum_le : (n : ℕ) (f g : ℕ → ℕ) → ((p : ℕ) → p < n → f p ≤ g p) → sum_below n f ≤ sum_below n g
unfolding sum_below
sum_le zero f g h = omega arith
sum_le (suc n) f g h =
    let rest = sum_le n f g (λ p b. h p (omega (arith, b))) in
    let here = h n (omega arith) in
    omega (arith, rest, here)

-- of all places but one
pub sum_but : (n : ℕ) (f g : ℕ → ℕ) (q : ℕ) → q < n → ((p : ℕ) → p < n → p ≢ q → f p ≤ g p) → sum_below n f + g q ≤ sum_below n g + f q
unfolding sum_below
sum_but zero f g q b h = absurd (omega (arith, b))
sum_but (suc n) f g q b h = split (nat_eq n q) (sum_below n f + f n + g q ≤ sum_below n g + g n + f q) (λ e. last (same_place n q e)) (λ e. before (sum_but n f g q) (other_place n q e))
  where
    last : n ≡ q → sum_below n f + f n + g q ≤ sum_below n g + g n + f q
    last e =
        let rest = sum_le n f g (λ p c. h p (omega (arith, c)) (omega (arith, c, e))) in
        let mine = ap f e in
        let theirs = ap g e in
        omega (arith, rest, mine, theirs)

    before : (q < n → ((p : ℕ) → p < n → p ≢ q → f p ≤ g p) → sum_below n f + g q ≤ sum_below n g + f q) → n ≢ q → sum_below n f + f n + g q ≤ sum_below n g + g n + f q
    before all other =
        let rest = all (omega (arith, b, other)) (λ p c. h p (omega (arith, c))) in
        let here = h n (omega arith) other in
        omega (arith, rest, here)

-- one is at most all
pub one_of_all : (n : ℕ) (f : ℕ → ℕ) (q : ℕ) → q < n → f q ≤ sum_below n f
unfolding sum_below
one_of_all zero f q b = absurd (omega (arith, b))
one_of_all (suc n) f q b = split (nat_eq q n) (f q ≤ sum_below n f + f n) (λ e. let same = ap f (same_place q n e) in omega (arith, same)) (λ e. let other = other_place q n e in let rest = one_of_all n f q (omega (arith, b, other)) in omega (arith, rest))
