-- What the ORBs of a ledger come to list by list, as the loads of an initiator have them.
use Rattle.sbp_world.proofs.Words.Std.{if◌then◌else◌, nat_cmp, is_eq, match_ordering, Less, Equal, Greater, insert_entry, is_at, lookup, remove_entry, ◌≡◌, arith, refl, sym, ◌∙◌, ap, subst, nat_eq, nat_tests}
use Rattle.sbp_world.proofs.Words.Wire.{OrbLoad, capped, orb_load, weights, without_orb}
use Rattle.std.specs.Prelude.{ℕ, suc, ◌+◌, ◌^◌, ◌<◌, ◌≤◌, ◌==◌, ◌&&◌, not, nat_lt, Bool, true, false, cond, List, [], ◌∷◌, ◌++◌, Some}
use Rattle.std.specs.Option.{unwrap_or}
use Rattle.sbp_world.proofs.Wire.Shares.{Share, is_of, is_one, without}
use Rattle.sbp_world.proofs.Common.{itself}

abbrev pub load_sum : List OrbLoad → ℕ
load_sum [] = 0
load_sum (load ∷ loads) = load.weight + load_sum loads

abbrev pub load_of : Share → OrbLoad
load_of one = orb_load one.orb one.weight

-- the loads of a list
abbrev pub loads_in : (i n : ℕ) → List Share → List OrbLoad
loads_in i n [] = []
loads_in i n (one ∷ all) = cond (is_of i n one) (load_of one ∷ loads_in i n all) (loads_in i n all)

-- what the ORBs of an initiator count
abbrev pub sum_of : (i : ℕ) → List Share → ℕ
sum_of i [] = 0
sum_of i (one ∷ all) = (if one.initiator == i then one.weight else 0) + sum_of i all

pub load_sum_more : (one two : List OrbLoad) → load_sum (one ++ two) ≡ load_sum one + load_sum two
load_sum_more [] two = omega arith
load_sum_more (x ∷ one) two = let e = load_sum_more one two in omega (arith, e)

pub loads_more : (i n : ℕ) (one two : List Share) → loads_in i n (one ++ two) ≡ loads_in i n one ++ loads_in i n two
loads_more i n [] two = refl
loads_more i n (x ∷ one) two = ap (λ xs. cond (is_of i n x) (load_of x ∷ xs) xs) (loads_more i n one two) ∙ out (is_of i n x)
  where
    out : (b : Bool) → cond b (load_of x ∷ (loads_in i n one ++ loads_in i n two)) (loads_in i n one ++ loads_in i n two) ≡ cond b (load_of x ∷ loads_in i n one) (loads_in i n one) ++ loads_in i n two
    out true = refl
    out false = refl

pub sum_more : (i : ℕ) (one two : List Share) → sum_of i (one ++ two) ≡ sum_of i one + sum_of i two
sum_more i [] two = omega arith
sum_more i (x ∷ one) two = let e = sum_more i one two in omega (arith, e)

-- ---- without some
pub loads_apart : (test : Share → Bool) (i n : ℕ) → ((one : Share) → test one ≡ true → is_of i n one ≡ false) → (all : List Share) → loads_in i n (without test all) ≡ loads_in i n all
loads_apart test i n h [] = refl
loads_apart test i n h (one ∷ all) = by (loads_apart test i n h all) (test one) refl
  where
    by : loads_in i n (without test all) ≡ loads_in i n all → (b : Bool) → test one ≡ b → loads_in i n (cond b (without test all) (one ∷ without test all)) ≡ loads_in i n (one ∷ all)
    by ih true e = ih ∙ sym (ap (λ b. cond b (load_of one ∷ loads_in i n all) (loads_in i n all)) (h one e))
    by ih false e = ap (λ xs. cond (is_of i n one) (load_of one ∷ xs) xs) ih

pub sum_apart : (test : Share → Bool) (i : ℕ) → ((one : Share) → test one ≡ true → nat_eq one.initiator i ≡ false) → (all : List Share) → sum_of i (without test all) ≡ sum_of i all
sum_apart test i h [] = refl
sum_apart test i h (one ∷ all) = by (sum_apart test i h all) (test one) refl
  where
    by : sum_of i (without test all) ≡ sum_of i all → (b : Bool) → test one ≡ b → sum_of i (cond b (without test all) (one ∷ without test all)) ≡ sum_of i (one ∷ all)
    by ih true e =
        let f : (if one.initiator == i then one.weight else 0) ≡ 0 = ap (λ b. cond b one.weight 0) (h one e) in
        omega (arith, f, ih)
    by ih false e = omega (arith, ih)

pub cut_none : (i n : ℕ) (all : List Share) → loads_in i n (without (is_of i n) all) ≡ []
cut_none i n [] = refl
cut_none i n (one ∷ all) = by (cut_none i n all) (is_of i n one) refl
  where
    by : loads_in i n (without (is_of i n) all) ≡ [] → (b : Bool) → is_of i n one ≡ b → loads_in i n (cond b (without (is_of i n) all) (one ∷ without (is_of i n) all)) ≡ []
    by ih true e = ih
    by ih false e = ap (λ b. cond b (load_of one ∷ loads_in i n (without (is_of i n) all)) (loads_in i n (without (is_of i n) all))) e ∙ ih

module _ (i n k : ℕ) (one : Share) (all : List Share) where
  abbrev left : List Share
  left = without (is_one i n k) all

  abbrev was : List OrbLoad
  was = without_orb k (loads_in i n all)

  taken_by : loads_in i n left ≡ was → (a : Bool) → is_of i n one ≡ a → (b : Bool) → nat_eq one.orb k ≡ b → loads_in i n (cond (a && b) left (one ∷ left)) ≡ without_orb k (cond a (load_of one ∷ loads_in i n all) (loads_in i n all))
  taken_by ih true e true f = ih ∙ sym (ap (λ c. cond (not c) (load_of one ∷ was) was) f)
  taken_by ih true e false f =
      ap (λ c. cond c (load_of one ∷ loads_in i n left) (loads_in i n left)) e ∙ ap (λ xs. load_of one ∷ xs) ih ∙ sym (ap (λ c. cond (not c) (load_of one ∷ was) was) f)
  taken_by ih false e b f = ap (λ c. cond c (load_of one ∷ loads_in i n left) (loads_in i n left)) e ∙ ih

  sum_by : sum_of i left + load_sum (loads_in i n all) ≡ sum_of i all + load_sum was → (a : Bool) → nat_eq one.initiator i ≡ a → (b c : Bool) → nat_eq one.orb k ≡ c → sum_of i (cond ((a && b) && c) left (one ∷ left)) + load_sum (cond (a && b) (load_of one ∷ loads_in i n all) (loads_in i n all)) ≡ (cond a one.weight 0 + sum_of i all) + load_sum (without_orb k (cond (a && b) (load_of one ∷ loads_in i n all) (loads_in i n all)))
  sum_by h true e true true f =
      let g : load_sum (cond (not (nat_eq one.orb k)) (load_of one ∷ was) was) ≡ load_sum was = ap (λ c. load_sum (cond (not c) (load_of one ∷ was) was)) f in
      omega (arith, h, g)
  sum_by h true e true false f =
      let g : load_sum (cond (not (nat_eq one.orb k)) (load_of one ∷ was) was) ≡ one.weight + load_sum was = ap (λ c. load_sum (cond (not c) (load_of one ∷ was) was)) f in
      let s : (if one.initiator == i then one.weight else 0) ≡ one.weight = ap (λ c. cond c one.weight 0) e in
      omega (arith, h, g, s)
  sum_by h true e false c f =
      let s : (if one.initiator == i then one.weight else 0) ≡ one.weight = ap (λ c. cond c one.weight 0) e in
      omega (arith, h, s)
  sum_by h false e b c f =
      let s : (if one.initiator == i then one.weight else 0) ≡ 0 = ap (λ c. cond c one.weight 0) e in
      omega (arith, h, s)

pub taken_one : (i n k : ℕ) (all : List Share) → loads_in i n (without (is_one i n k) all) ≡ without_orb k (loads_in i n all)
taken_one i n k [] = refl
taken_one i n k (one ∷ all) = taken_by i n k one all (taken_one i n k all) (is_of i n one) refl (nat_eq one.orb k) refl

-- ---- sums
pub taken_sum : (i n k : ℕ) (all : List Share) → sum_of i (without (is_one i n k) all) + load_sum (loads_in i n all) ≡ sum_of i all + load_sum (without_orb k (loads_in i n all))
taken_sum i n k [] = refl
taken_sum i n k (one ∷ all) = sum_by i n k one all (taken_sum i n k all) (nat_eq one.initiator i) refl (nat_eq one.list n) (nat_eq one.orb k) refl

module _ (i n : ℕ) (one : Share) (all : List Share) where
  abbrev uncut : List Share
  uncut = without (is_of i n) all

  cut_by : sum_of i uncut + load_sum (loads_in i n all) ≡ sum_of i all → (a : Bool) → nat_eq one.initiator i ≡ a → (b : Bool) → sum_of i (cond (a && b) uncut (one ∷ uncut)) + load_sum (cond (a && b) (load_of one ∷ loads_in i n all) (loads_in i n all)) ≡ cond a one.weight 0 + sum_of i all
  cut_by h true e true = omega (arith, h)
  cut_by h true e false =
      let g : (if one.initiator == i then one.weight else 0) ≡ one.weight = ap (λ c. cond c one.weight 0) e in
      omega (arith, h, g)
  cut_by h false e b =
      let g : (if one.initiator == i then one.weight else 0) ≡ 0 = ap (λ c. cond c one.weight 0) e in
      omega (arith, h, g)

pub cut_sum : (i n : ℕ) (all : List Share) → sum_of i (without (is_of i n) all) + load_sum (loads_in i n all) ≡ sum_of i all
cut_sum i n [] = refl
cut_sum i n (one ∷ all) = cut_by i n one all (cut_sum i n all) (nat_eq one.initiator i) refl (nat_eq one.list n)

pub one_list : (i n : ℕ) (all : List Share) → load_sum (loads_in i n all) ≤ sum_of i all
one_list i n all = let e = cut_sum i n all in omega (arith, e)

both_lists : (l m n : ℕ) → nat_eq l m ≡ true → nat_eq l n ≡ true → nat_eq m n ≡ false → ⊥
both_lists l m n e f g = let h : nat_eq m n ≡ true = grind (arith, nat_tests) in cc

pub two_lists : (i m n : ℕ) → nat_eq m n ≡ false → (all : List Share) → load_sum (loads_in i m all) + load_sum (loads_in i n all) ≤ sum_of i all
two_lists i m n d all =
    let other : loads_in i m (without (is_of i n) all) ≡ loads_in i m all = loads_apart (is_of i n) i m (λ one e. apart one (nat_eq one.initiator i) (nat_eq one.list n) refl (nat_eq one.list m) refl e) all in
    let a = ap load_sum other in
    let b = one_list i m (without (is_of i n) all) in
    let c = cut_sum i n all in
    omega (arith, a, b, c)
  where
    apart : (one : Share) (a b : Bool) → nat_eq one.list n ≡ b → (c : Bool) → nat_eq one.list m ≡ c → (a && b) ≡ true → (a && c) ≡ false
    apart one true true e true f g = absurd (both_lists one.list m n f e d)
    apart one true true e false f g = refl
    apart one true false e c f g = cc
    apart one false b e c f g = refl

-- ---- lists that were dropped
abbrev pub left_at : ℕ → List (ℕ × ℕ) → ℕ
left_at list left = unwrap_or (lookup (is_at (nat_cmp list)) left) 0

abbrev pub Rises : ℕ → List (ℕ × ℕ) → Type 0
Rises from [] = Unit {0}
Rises from (entry ∷ left) = (from ≤ entry.0) × Rises (suc entry.0) left

at_is : (a b : ℕ) → is_at (nat_cmp a) b ≡ nat_eq a b
at_is a b = by (nat_lt a b) (nat_eq a b) refl refl
  where
    by : (c d : Bool) → nat_lt a b ≡ c → nat_eq a b ≡ d → is_eq (cond c Less (cond d Equal Greater)) ≡ d
    by true true e f = absurd (both e f)
      where
        both : nat_lt a b ≡ true → nat_eq a b ≡ true → ⊥
        both e f = grind (arith, nat_tests)
    by true false e f = refl
    by false true e f = refl
    by false false e f = refl

hit : (a : ℕ) (entry : ℕ × ℕ) (left : List (ℕ × ℕ)) → nat_eq a entry.0 ≡ true → left_at a (entry ∷ left) ≡ entry.1
hit a entry left e = ap (λ c. unwrap_or (cond c (Some entry.1) (lookup (is_at (nat_cmp a)) left)) 0) (at_is a entry.0 ∙ e)

miss : (a : ℕ) (entry : ℕ × ℕ) (left : List (ℕ × ℕ)) → nat_eq a entry.0 ≡ false → left_at a (entry ∷ left) ≡ left_at a left
miss a entry left e = ap (λ c. unwrap_or (cond c (Some entry.1) (lookup (is_at (nat_cmp a)) left)) 0) (at_is a entry.0 ∙ e)

other_key : (a b c : ℕ) → nat_eq a b ≡ false → nat_eq b c ≡ true → nat_eq a c ≡ false
other_key a b c e f = grind (arith, nat_tests)

abbrev inserted : Bool → Bool → ℕ → ℕ → (ℕ × ℕ) → List (ℕ × ℕ) → List (ℕ × ℕ) → List (ℕ × ℕ)
inserted c d k v entry left more =
    match_ordering (cond c Less (cond d Equal Greater)) ((k, v) ∷ entry ∷ left) ((entry.0, v) ∷ left) (entry ∷ more)

pub insert_here : (left : List (ℕ × ℕ)) (k v : ℕ) → left_at k (insert_entry nat_cmp left k v) ≡ v
insert_here [] k v = hit k (k, v) [] (itself k)
insert_here (entry ∷ left) k v = by (insert_here left k v) (nat_lt k entry.0) (nat_eq k entry.0) refl
  where
    by : left_at k (insert_entry nat_cmp left k v) ≡ v → (c d : Bool) → nat_eq k entry.0 ≡ d → left_at k (inserted c d k v entry left (insert_entry nat_cmp left k v)) ≡ v
    by ih true d f = hit k (k, v) (entry ∷ left) (itself k)
    by ih false true f = hit k (entry.0, v) left f
    by ih false false f = miss k entry (insert_entry nat_cmp left k v) f ∙ ih

pub insert_there : (left : List (ℕ × ℕ)) (k v other : ℕ) → nat_eq other k ≡ false → left_at other (insert_entry nat_cmp left k v) ≡ left_at other left
insert_there [] k v other n = miss other (k, v) [] n
insert_there (entry ∷ left) k v other n = by (insert_there left k v other n) (nat_lt k entry.0) (nat_eq k entry.0) refl (nat_eq other entry.0) refl
  where
    by : left_at other (insert_entry nat_cmp left k v) ≡ left_at other left → (c d : Bool) → nat_eq k entry.0 ≡ d → (b : Bool) → nat_eq other entry.0 ≡ b → left_at other (inserted c d k v entry left (insert_entry nat_cmp left k v)) ≡ left_at other (entry ∷ left)
    by ih true d f b g = miss other (k, v) (entry ∷ left) n
    by ih false true f b g =
        let m = other_key other k entry.0 n f in
        miss other (entry.0, v) left m ∙ sym (miss other entry left m)
    by ih false false f true g = hit other entry (insert_entry nat_cmp left k v) g ∙ sym (hit other entry left g)
    by ih false false f false g = miss other entry (insert_entry nat_cmp left k v) g ∙ ih ∙ sym (miss other entry left g)

pub insert_rises : (left : List (ℕ × ℕ)) (from k v : ℕ) → from ≤ k → Rises from left → Rises from (insert_entry nat_cmp left k v)
insert_rises [] from k v l r = (l, tt)
insert_rises (entry ∷ left) from k v l r = by (λ m. insert_rises left (suc entry.0) k v m r.1) (nat_lt k entry.0) (nat_eq k entry.0) refl refl
  where
    by : (suc entry.0 ≤ k → Rises (suc entry.0) (insert_entry nat_cmp left k v)) → (c d : Bool) → nat_lt k entry.0 ≡ c → nat_eq k entry.0 ≡ d → Rises from (inserted c d k v entry left (insert_entry nat_cmp left k v))
    by ih true d e f = let x : suc k ≤ entry.0 = grind (arith, nat_tests) in (l, (x, r.1))
    by ih false true e f = r
    by ih false false e f = let x : suc entry.0 ≤ k = grind (arith, nat_tests) in (r.0, ih x)

abbrev pub removed : ℕ → List (ℕ × ℕ) → List (ℕ × ℕ)
removed k left = remove_entry (is_at (nat_cmp k)) left

remove_by : (k : ℕ) (entry : ℕ × ℕ) (left : List (ℕ × ℕ)) → removed k (entry ∷ left) ≡ cond (nat_eq k entry.0) left (entry ∷ removed k left)
remove_by k entry left = ap (λ c. cond c left (entry ∷ removed k left)) (at_is k entry.0)

pub remove_there : (left : List (ℕ × ℕ)) (k other : ℕ) → nat_eq other k ≡ false → left_at other (removed k left) ≡ left_at other left
remove_there [] k other n = refl
remove_there (entry ∷ left) k other n = ap (left_at other) (remove_by k entry left) ∙ by (remove_there left k other n) (nat_eq k entry.0) refl (nat_eq other entry.0) refl
  where
    by : left_at other (removed k left) ≡ left_at other left → (d : Bool) → nat_eq k entry.0 ≡ d → (b : Bool) → nat_eq other entry.0 ≡ b → left_at other (cond d left (entry ∷ removed k left)) ≡ left_at other (entry ∷ left)
    by ih true f b g = sym (miss other entry left (other_key other k entry.0 n f))
    by ih false f true g = hit other entry (removed k left) g ∙ sym (hit other entry left g)
    by ih false f false g = miss other entry (removed k left) g ∙ ih ∙ sym (miss other entry left g)

below_none : (left : List (ℕ × ℕ)) (from k : ℕ) → k < from → Rises from left → left_at k left ≡ 0
below_none [] from k l r = refl
below_none (entry ∷ left) from k l r =
    let a = r.0 in
    let n : nat_eq k entry.0 ≡ false = grind (arith, nat_tests) in
    miss k entry left n ∙ below_none left (suc entry.0) k (omega (arith, a, l)) r.1

pub remove_here : (left : List (ℕ × ℕ)) (from k : ℕ) → Rises from left → left_at k (removed k left) ≡ 0
remove_here [] from k r = refl
remove_here (entry ∷ left) from k r = ap (left_at k) (remove_by k entry left) ∙ by (remove_here left (suc entry.0) k r.1) (nat_eq k entry.0) refl
  where
    by : left_at k (removed k left) ≡ 0 → (d : Bool) → nat_eq k entry.0 ≡ d → left_at k (cond d left (entry ∷ removed k left)) ≡ 0
    by ih true f = below_none left (suc entry.0) k (grind (arith, nat_tests)) r.1
    by ih false f = miss k entry (removed k left) f ∙ ih

rises_weaker : (left : List (ℕ × ℕ)) (from other : ℕ) → other ≤ from → Rises from left → Rises other left
rises_weaker [] from other l r = tt
rises_weaker (entry ∷ left) from other l r = let a = r.0 in (omega (arith, a, l), r.1)

pub remove_rises : (left : List (ℕ × ℕ)) (from k : ℕ) → Rises from left → Rises from (removed k left)
remove_rises [] from k r = tt
remove_rises (entry ∷ left) from k r = subst (Rises from) (sym (remove_by k entry left)) (by (remove_rises left (suc entry.0) k r.1) (nat_eq k entry.0))
  where
    by : Rises (suc entry.0) (removed k left) → (d : Bool) → Rises from (cond d left (entry ∷ removed k left))
    by ih true = rises_weaker left (suc entry.0) from (let a = r.0 in omega (arith, a)) r.1
    by ih false = (r.0, ih)

-- ---- sums of the code, which stay below 2^64
pub capped_is : (n : ℕ) → n < 2 ^ 64 → capped n ≡ n
capped_is n l = omega (arith, l)

pub weights_are : (loads : List OrbLoad) (sum : ℕ) → sum + load_sum loads < 2 ^ 64 → weights loads sum ≡ sum + load_sum loads
weights_are [] sum l = omega arith
weights_are (load ∷ loads) sum l =
    let a : capped (sum + load.weight) ≡ sum + load.weight = capped_is (sum + load.weight) (omega (arith, l)) in
    let b = weights_are loads (sum + load.weight) (omega (arith, l)) in
    ap (weights loads) a ∙ b ∙ omega arith
