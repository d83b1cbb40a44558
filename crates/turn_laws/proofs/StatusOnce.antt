-- The list of the nodes to which an unsolicited status is under way: each stands in it once at most, so it is gone from it behind one answer.
use Rattle.std.proofs.Common.{arith, ◌≡◌, ◌∙◌, refl, sym, ap, subst, inl, inr, ◌⊎◌, ℕ, suc, ◌+◌, ◌==◌, ◌||◌, not, nat_eq, nat_lt, Bool, true, false, cond, List, [], ◌∷◌, ◌++◌, length, position, Some, None}
use Rattle.std.specs.List.{position_or_len}
use Rattle.std.proofs.lemmas.Bool.Decides.{nat_tests}
use Rattle.std.proofs.lemmas.Bool.{or_parts}
use Rattle.sbp_target.specs.Receiving.{removed}
use Rattle.sbp_target.specs.Units.{is_node, is_pending}
use Rattle.sbp_world.proofs.Common.{untrue}

-- ---- one node more
pub keeps_pending : (p y : ℕ) (xs : List ℕ) → is_pending p xs ≡ true → is_pending p (xs ++ y ∷ []) ≡ true
keeps_pending p y [] e = untrue e
keeps_pending p y (x ∷ xs) e = by (λ f. keeps_pending p y xs f) (p == x) e
  where
    by : (is_pending p xs ≡ true → is_pending p (xs ++ y ∷ []) ≡ true) → (b : Bool) → (b || is_pending p xs) ≡ true → (b || is_pending p (xs ++ y ∷ [])) ≡ true
    by more true f = refl
    by more false f = more f

pub self_pending : (y : ℕ) (xs : List ℕ) → is_pending y (xs ++ y ∷ []) ≡ true
self_pending y [] = let same : nat_eq y y ≡ true = grind (arith, nat_tests) in ap (λ b. b || false) same
self_pending y (x ∷ xs) = by (self_pending y xs) (y == x)
  where
    by : is_pending y (xs ++ y ∷ []) ≡ true → (b : Bool) → (b || is_pending y (xs ++ y ∷ [])) ≡ true
    by more true = refl
    by more false = more

pub more_pending : (p y : ℕ) (xs : List ℕ) → is_pending p (xs ++ y ∷ []) ≡ true → (is_pending p xs ≡ true) ⊎ (p ≡ y)
more_pending p y [] e = by (nat_eq p y) refl e
  where
    by : (b : Bool) → nat_eq p y ≡ b → (b || false) ≡ true → (false ≡ true) ⊎ (p ≡ y)
    by true f g = inr (grind (arith, nat_tests))
    by false f g = untrue g
more_pending p y (x ∷ xs) e = by (λ f. more_pending p y xs f) (p == x) e
  where
    by : (is_pending p (xs ++ y ∷ []) ≡ true → (is_pending p xs ≡ true) ⊎ (p ≡ y)) → (b : Bool) → (b || is_pending p (xs ++ y ∷ [])) ≡ true → ((b || is_pending p xs) ≡ true) ⊎ (p ≡ y)
    by more true f = inl refl
    by more false f = more f

-- ---- each once
abbrev pub Distinct : List ℕ → Type 0
Distinct [] = Unit {0}
Distinct (x ∷ xs) = (is_pending x xs ≡ false) × Distinct xs

not_true : (b : Bool) → (b ≡ true → false ≡ true) → b ≡ false
not_true true f = untrue (f refl)
not_true false f = refl

pub distinct_more : (xs : List ℕ) (y : ℕ) → is_pending y xs ≡ false → Distinct xs → Distinct (xs ++ y ∷ [])
distinct_more [] y e d = (refl, tt)
distinct_more (x ∷ xs) y e d =
    let f = or_parts (y == x) (is_pending y xs) e in
    (not_true (is_pending x (xs ++ y ∷ [])) (λ g. by f.0 (more_pending x y xs g)), distinct_more xs y f.1 d.1)
  where
    by : (y == x) ≡ false → (is_pending x xs ≡ true) ⊎ (x ≡ y) → false ≡ true
    by f (inl g) = sym d.0 ∙ g
    by f (inr g) = let same : nat_eq y x ≡ true = grind (arith, nat_tests) in sym f ∙ same

-- ---- one is taken out
abbrev Out : ℕ → List ℕ → List ℕ
Out p xs = removed (position (is_node p) xs) xs

out_first : (p x : ℕ) (xs : List ℕ) → (p == x) ≡ true → Out p (x ∷ xs) ≡ xs
out_first p x xs e =
    let none : position_or_len (is_node p) (x ∷ xs) ≡ 0 = ap (λ b. cond (not b) (1 + position_or_len (is_node p) xs) 0) e in
    let below : nat_lt 0 (suc (length xs)) ≡ true = grind (arith, nat_tests) in
    ap (λ k. removed (cond (nat_lt k (suc (length xs))) (Some k) None) (x ∷ xs)) none ∙ ap (λ b. removed (cond b (Some 0) None) (x ∷ xs)) below

out_later : (p x : ℕ) (xs : List ℕ) → (p == x) ≡ false → Out p (x ∷ xs) ≡ x ∷ Out p xs
out_later p x xs e =
    let k = position_or_len (is_node p) xs in
    let up : 1 + k ≡ suc k = omega arith in
    let next : position_or_len (is_node p) (x ∷ xs) ≡ suc k = ap (λ b. cond (not b) (1 + k) 0) e ∙ up in
    ap (λ n. removed (cond (nat_lt n (suc (length xs))) (Some n) None) (x ∷ xs)) next ∙ by k
  where
    by : (n : ℕ) → removed (cond (nat_lt (suc n) (suc (length xs))) (Some (suc n)) None) (x ∷ xs) ≡ x ∷ removed (cond (nat_lt n (length xs)) (Some n) None) xs
    by n = ap (λ c. removed (cond c (Some (suc n)) None) (x ∷ xs)) (same n (length xs)) ∙ each (nat_lt n (length xs)) n
      where
        same : (n m : ℕ) → nat_lt (suc n) (suc m) ≡ nat_lt n m
        same n m = grind (arith, nat_tests)

        each : (c : Bool) (n : ℕ) → removed (cond c (Some (suc n)) None) (x ∷ xs) ≡ x ∷ removed (cond c (Some n) None) xs
        each true n = refl
        each false n = refl

pub out_others : (p q : ℕ) (xs : List ℕ) → nat_eq q p ≡ false → is_pending q (removed (position (is_node p) xs) xs) ≡ is_pending q xs
out_others p q [] f = refl
out_others p q (x ∷ xs) f = by (out_others p q xs f) (nat_eq p x) refl
  where
    by : is_pending q (Out p xs) ≡ is_pending q xs → (b : Bool) → nat_eq p x ≡ b → is_pending q (Out p (x ∷ xs)) ≡ is_pending q (x ∷ xs)
    by more true e =
        let other : nat_eq q x ≡ false = grind (arith, nat_tests) in
        ap (is_pending q) (out_first p x xs e) ∙ sym (ap (λ b. b || is_pending q xs) other)
    by more false e = ap (is_pending q) (out_later p x xs e) ∙ ap (λ b. (q == x) || b) more

pub out_none : (p : ℕ) (xs : List ℕ) → Distinct xs → is_pending p (removed (position (is_node p) xs) xs) ≡ false
out_none p [] d = refl
out_none p (x ∷ xs) d = by (out_none p xs d.1) (nat_eq p x) refl
  where
    by : is_pending p (Out p xs) ≡ false → (b : Bool) → nat_eq p x ≡ b → is_pending p (Out p (x ∷ xs)) ≡ false
    by more true e = let same : p ≡ x = grind (arith, nat_tests) in ap (is_pending p) (out_first p x xs e) ∙ (ap (λ n. is_pending n xs) same ∙ d.0)
    by more false e = ap (is_pending p) (out_later p x xs e) ∙ (ap (λ b. b || is_pending p (Out p xs)) e ∙ more)

pub distinct_out : (p : ℕ) (xs : List ℕ) → Distinct xs → Distinct (removed (position (is_node p) xs) xs)
distinct_out p [] d = tt
distinct_out p (x ∷ xs) d = by (distinct_out p xs d.1) (nat_eq p x) refl
  where
    by : Distinct (Out p xs) → (b : Bool) → nat_eq p x ≡ b → Distinct (Out p (x ∷ xs))
    by more true e = subst Distinct (sym (out_first p x xs e)) d.1
    by more false e =
        let other : nat_eq x p ≡ false = grind (arith, nat_tests) in subst Distinct (sym (out_later p x xs e)) (out_others p x xs other ∙ d.0, more)
