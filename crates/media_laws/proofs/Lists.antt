-- The first element of a list that passes a test is replaced.
use Rattle.std.proofs.Common.{◌≡◌, ◌∙◌, refl, sym, ap, ℕ, zero, suc, ◌+◌, ◌<◌, nat_lt, Bool, true, false, not, cond, List, [], ◌∷◌, length, map, get_or, set, Option, Some, None, arith}
use Rattle.std.specs.Prelude.{position}
use Rattle.std.specs.List.{prefix_len}
use Rattle.std.proofs.lemmas.Bool.Decides.{nat_tests}

abbrev pub replaced : {X : Type 0} → (X → Bool) → X → List X → List X
replaced test new [] = []
replaced test new (x ∷ xs) = cond (test x) (new ∷ xs) (x ∷ replaced test new xs)

-- an element at a place, where there is one
abbrev pub put : {X : Type 0} → Option ℕ → X → List X → List X
put None new xs = xs
put (Some place) new xs = set xs place new

put_behind : {X : Type 0} (b : Bool) (n : ℕ) (new x : X) (xs : List X) → put (cond b (Some (suc n)) None) new (x ∷ xs) ≡ x ∷ put (cond b (Some n) None) new xs
put_behind true n new x xs = refl
put_behind false n new x xs = refl

lt_by : (b c : Bool) (n m : ℕ) → nat_lt (suc n) (suc m) ≡ b → nat_lt n m ≡ c → b ≡ c
lt_by true true n m e f = refl
lt_by true false n m e f = grind (arith, nat_tests)
lt_by false true n m e f = grind (arith, nat_tests)
lt_by false false n m e f = refl

zero_lt : (m : ℕ) → nat_lt 0 (suc m) ≡ true
zero_lt m = grind (arith, nat_tests)

first_by : {X : Type 0} (b : Bool) (test : X → Bool) (new x : X) (xs : List X) → test x ≡ b → put (position test xs) new xs ≡ replaced test new xs → put (position test (x ∷ xs)) new (x ∷ xs) ≡ cond b (new ∷ xs) (x ∷ replaced test new xs)
first_by true test new x xs e h = rw e (ap (λ b. put (cond b (Some 0) None) new (x ∷ xs)) (zero_lt (length xs)))
first_by false test new x xs e h =
    let n = prefix_len (λ y. not (test y)) xs in
    let one : 1 + n ≡ suc n = omega arith in
    rw e
    (ap (λ m. put (cond (nat_lt m (length (x ∷ xs))) (Some m) None) new (x ∷ xs)) one
    ∙ (ap (λ b. put (cond b (Some (suc n)) None) new (x ∷ xs)) (lt_by _ _ n (length xs) refl refl)
    ∙ (put_behind (nat_lt n (length xs)) n new x xs ∙ ap (λ ys. x ∷ ys) h)))

pub put_first : {X : Type 0} (test : X → Bool) (new : X) (xs : List X) → put (position test xs) new xs ≡ replaced test new xs
put_first test new [] = refl
put_first test new (x ∷ xs) = first_by (test x) test new x xs refl (put_first test new xs)

map_if : {X Y : Type 0} (f : X → Y) (b : Bool) (xs ys : List X) → map f (cond b xs ys) ≡ cond b (map f xs) (map f ys)
map_if f true xs ys = refl
map_if f false xs ys = refl

pub replaced_map : {X Y : Type 0} (f : X → Y) (test : X → Bool) (other : Y → Bool) (new : X) (xs : List X) → ((x : X) → other (f x) ≡ test x) → map f (replaced test new xs) ≡ replaced other (f new) (map f xs)
replaced_map f test other new [] same = refl
replaced_map f test other new (x ∷ xs) same =
    map_if f (test x) (new ∷ xs) (x ∷ replaced test new xs)
    ∙ (ap (λ ys. cond (test x) (f new ∷ map f xs) (f x ∷ ys)) (replaced_map f test other new xs same)
    ∙ ap (λ b. cond b (f new ∷ map f xs) (f x ∷ replaced other (f new) (map f xs))) (sym (same x)))

-- the first one that passes is the one at a place
pub replaced_at : {X : Type 0} (test : X → Bool) (new d : X) (xs : List X) (k : ℕ) → k < length xs → test (get_or xs k d) ≡ true → ((j : ℕ) → j < k → test (get_or xs j d) ≡ false) → replaced test new xs ≡ set xs k new
replaced_at test new d [] k h here before = absurd (omega arith)
replaced_at test new d (x ∷ xs) zero h here before = rw here refl
replaced_at test new d (x ∷ xs) (suc k) h here before =
    let no : test x ≡ false = before zero (omega arith) in
    let rest = replaced_at test new d xs k (omega arith) here (λ j below. before (suc j) (omega arith)) in
    rw no (ap (λ ys. x ∷ ys) rest)
