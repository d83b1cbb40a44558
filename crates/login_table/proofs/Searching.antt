-- What the searches over the places find, and what they do not find.
use Rattle.std.specs.Prelude.{◌≡◌, ℕ, ◌<◌, not, Bool, true, false, List, length, position, is_none, Option, Some, None, refl}
use Rattle.std.specs.List.{position_or_len, list_any}
use Rattle.std.proofs.Common.{arith, get_or, set, ap, sym, ◌∙◌}
use Rattle.std.proofs.Math.ListN.{length-set}
use Rattle.std.proofs.lemmas.Grind.{common_steps}
use Rattle.std.proofs.lemmas.List.{get_or-set_same}
use Rattle.std.proofs.lemmas.List.Folds.{list_any_at}
use Rattle.std.proofs.lemmas.List.Sums.{prefix_len_passes}
use Rattle.std.proofs.lemmas.List.Quantifiers.{position-Some}
use Rattle.login_table.specs.declared.login.Login.{Login}
use Rattle.login_table.specs.Requests.{LoginRequest}
use Rattle.login_table.specs.Table.{any_login, find, has, is_old, left_for, place_at, without}

none_from : {A : Type 0} (p : A → Bool) (xs : List A) (k : ℕ) (d : A) → k < position_or_len p xs → k < length xs → p (get_or xs k d) ≡ false
none_from p xs k d e h = let q = prefix_len_passes (λ x. not (p x)) xs k d e in grind arith

pub position_none : {A : Type 0} (p : A → Bool) (xs : List A) (k : ℕ) (d : A) → position p xs ≡ None → k < length xs → p (get_or xs k d) ≡ false
position_none p xs k d e h = none_from p xs k d (grind arith) h

pub any_none : {A : Type 0} (p : A → Bool) (xs : List A) (k : ℕ) (d : A) (b : Bool) → p (get_or xs k d) ≡ b → list_any p xs ≡ false → k < length xs → b ≡ false
any_none p xs k d true e f h = let g = list_any_at p xs k d h e in cc
any_none p xs k d false e f h = refl

-- a login stands below the end of the places
pub within : (places : List (Option Login)) (k : ℕ) (login : Login) → place_at places k ≡ Some login → k < length places
within places k login e = grind (arith, common_steps)

-- No login passes a test that none of the table passes.
pub fails : (test : Login → Bool) (places : List (Option Login)) (k : ℕ) (login : Login) → place_at places k ≡ Some login → any_login test places ≡ false → test login ≡ false
fails test places k login e f = any_none (has test) places k None (test login) (ap (has test) e) f (within places k login e)

-- Nor does one pass where none is found.
pub not_found : (test : Login → Bool) (places : List (Option Login)) (k : ℕ) (login : Login) → place_at places k ≡ Some login → find test places ≡ None → test login ≡ false
not_found test places k login e f = sym (ap (has test) e) ∙ position_none (has test) places k None f (within places k login e)

pub record Found (test : Login → Bool) (places : List (Option Login)) (k : ℕ) : Type 0 where
  pub login : Login
  pub stands : place_at places k ≡ Some login
  pub passes : test login ≡ true
  pub below : k < length places

found_as : (test : Login → Bool) (places : List (Option Login)) (k : ℕ) (place : Option Login) → place_at places k ≡ place → has test place ≡ true → k < length places → Found test places k
found_as test places k None e t h = absurd (let no : false ≡ true = t in cc)
found_as test places k (Some login) e t h = record { login = login; stands = e; passes = t; below = h }

-- A login that is found stands in its place and passes the test.
pub found : (test : Login → Bool) (places : List (Option Login)) (k : ℕ) → find test places ≡ Some k → Found test places k
found test places k e =
    let p = position-Some (has test) places k None e in
    found_as test places k _ refl p.1 p.0

empty_as : (place : Option Login) → is_none place ≡ true → place ≡ None
empty_as None e = refl
empty_as (Some login) e = absurd (let no : false ≡ true = e in cc)

-- A free place that is found is empty.
pub found_empty : (places : List (Option Login)) (k : ℕ) → position is_none places ≡ Some k → (k < length places) × (place_at places k ≡ None)
found_empty places k e =
    let p = position-Some is_none places k None e in
    (p.0, empty_as _ p.1)

full_kept : (place : Option ℕ) (test : Login → Bool) (places : List (Option Login)) → find test places ≡ place → position is_none (without place places) ≡ None → without place places ≡ places
full_kept None test places e full = refl
full_kept (Some k) test places e full =
    let f = found test places k e in
    let g = length-set places k None in
    let n = position_none is_none (set places k None) k None full in
    let s = get_or-set_same places k None None f.below in
    absurd (let no : is_none (get_or (set places k None) k None) ≡ false = n (grind arith) in grind arith)

-- Where no place is free after the held login was to be removed, there was none to remove.
pub left_full : (asked : LoginRequest) (places : List (Option Login)) → position is_none (left_for asked places) ≡ None → left_for asked places ≡ places
unfolding left_for
left_full asked places full = full_kept (find (is_old asked) places) (is_old asked) places refl full
