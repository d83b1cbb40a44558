-- Five nodes find room in five places, each the node's own once it has taken it: there are as many free places as nodes without one.
use Rattle.std.specs.Prelude.{◌≡◌, ℕ, zero, suc, ◌+◌, ◌<◌, ◌≤◌, not, nat_eq, nat_lt, is_some, Bool, true, false, cond, List, [], ◌∷◌, length, map, replicate, position, slice_set, slice_index_or, Option, Some, None, refl}
use Rattle.std.specs.List.{sum_by, prefix_len}
use Rattle.std.proofs.Common.{arith, sym, ◌∙◌, ap, subst}
use Rattle.std.proofs.Math.ListN.{length-set}
use Rattle.std.proofs.lemmas.List.Folds.{position_or_len-set}
use Rattle.std.proofs.lemmas.List.Quantifiers.{position-Some}
use Rattle.std.proofs.lemmas.List.Sums.{sum_by-set, sum_by-cons}
use Rattle.std.proofs.lemmas.List.{get_or-set_same, map-set, length-map}
use Rattle.label_table.specs.Owned.{is_same_node, or_else, is_owned_by, owned_place}
use Rattle.label_table.proofs.Owned.{position_none}

-- the owners of places
abbrev pub Owners : Type 0
Owners = List (Option ℕ)

abbrev is_of : Option ℕ → Option ℕ → Bool
is_of source owner = is_same_node owner source

abbrev pub knows : Owners → ℕ → Bool
knows owners source = is_some (position (is_of (Some source)) owners)

abbrev pub unknown_one : Bool → ℕ
unknown_one known = cond known 0 1

-- of the first nodes, how many have no place
abbrev pub unknown : (ℕ → ℕ) → ℕ → Owners → ℕ
unknown row zero owners = 0
unknown row (suc n) owners = unknown_one (knows owners (row n)) + unknown row n owners

abbrev is_free : Option ℕ → ℕ
is_free owner = cond (is_of None owner) 1 0

abbrev pub frees : Owners → ℕ
frees owners = sum_by is_free owners

-- ---- a place is written
position_set : {A : Type 0} (p : A → Bool) (xs : List A) (i : ℕ) (y d : A) → p y ≡ p (slice_index_or xs i d) → position p (slice_set xs i y) ≡ position p xs
position_set p xs i y d e = let f = position_or_len-set p xs i y d e in let g = length-set xs i y in rw (f, g)

unknown_same : (row : ℕ → ℕ) (n : ℕ) (f g : Owners) → ((t : ℕ) → knows g t ≡ knows f t) → unknown row n g ≡ unknown row n f
unknown_same row zero f g same = refl
unknown_same row (suc n) f g same =
    ap (λ b. unknown_one b + unknown row n g) (same (row n)) ∙ ap (λ m. unknown_one (knows f (row n)) + m) (unknown_same row n f g same)

one_less : (a b : Bool) → (a ≡ true → b ≡ true) → unknown_one b ≤ unknown_one a
one_less true true m = omega arith
one_less true false m = let e = m refl in cc
one_less false true m = omega arith
one_less false false m = omega arith

unknown_less : (row : ℕ → ℕ) (n : ℕ) (f g : Owners) → ((t : ℕ) → knows f t ≡ true → knows g t ≡ true) → unknown row n g ≤ unknown row n f
unknown_less row zero f g more = omega arith
unknown_less row (suc n) f g more =
    let a = one_less (knows f (row n)) (knows g (row n)) (more (row n)) in
    let b = unknown_less row n f g more in
    omega (arith, a, b)

unknown_falls : (row : ℕ → ℕ) (n m : ℕ) (f g : Owners) → ((t : ℕ) → knows f t ≡ true → knows g t ≡ true) → m < n → knows f (row m) ≡ false → knows g (row m) ≡ true → unknown row n g + 1 ≤ unknown row n f
unknown_falls row zero m f g more l a b = absurd (omega (arith, l))
unknown_falls row (suc n) m f g more l a b = by_test (nat_eq m n) refl (λ below. unknown_falls row n m f g more below a b)
  where
    by_test : (x : Bool) → nat_eq m n ≡ x → (m < n → unknown row n g + 1 ≤ unknown row n f) → unknown_one (knows g (row n)) + unknown row n g + 1 ≤ unknown_one (knows f (row n)) + unknown row n f
    by_test true e rest =
        let is : m ≡ n = grind arith in
        let c : unknown_one (knows f (row n)) ≡ 1 = ap unknown_one (subst (λ k. knows f (row k) ≡ false) is a) in
        let d : unknown_one (knows g (row n)) ≡ 0 = ap unknown_one (subst (λ k. knows g (row k) ≡ true) is b) in
        let r = unknown_less row n f g more in
        omega (arith, c, d, r)
    by_test false e rest =
        let below : m < n = grind arith in
        let c = one_less (knows f (row n)) (knows g (row n)) (more (row n)) in
        let r = rest below in
        omega (arith, c, r)

owner_is : (o : Option ℕ) (s : ℕ) → is_of (Some s) o ≡ true → o ≡ Some s
owner_is None s e = cc
owner_is (Some t) s e = let i : t ≡ s = grind arith in ap Some i

vacant_is : (o : Option ℕ) → is_of None o ≡ true → o ≡ None
vacant_is None e = refl
vacant_is (Some t) e = cc

some_known : (o : Option ℕ) → (o ≡ None → ⊥) → is_some o ≡ true
some_known None n = absurd (n refl)
some_known (Some k) n = refl

self_same : (s : ℕ) → is_same_node (Some s) (Some s) ≡ true
self_same s = grind arith

-- in the node's own place, or in one that none has
module _ (row : ℕ → ℕ) (f : Owners) (s k m : ℕ) (is : row m ≡ s) (small : m < 5) (room : unknown row 5 f ≤ frees f) where
  abbrev old : Option ℕ
  old = slice_index_or f k None

  abbrev after : Owners
  after = slice_set f k (Some s)

  own_room : position (is_of (Some s)) f ≡ Some k → unknown row 5 after ≤ frees after
  own_room e =
      let p = position-Some (is_of (Some s)) f k None e in
      let o : old ≡ Some s = owner_is old s p.1 in
      let same : (t : ℕ) → knows after t ≡ knows f t = λ t. ap is_some (position_set (is_of (Some t)) f k (Some s) None (ap (is_of (Some t)) (sym o))) in
      let sums = sum_by-set is_free f k (Some s) None p.0 in
      let free : is_free (Some s) ≡ is_free old = ap is_free (sym o) in
      let u = unknown_same row 5 f after same in
      omega (arith, sums, free, u, room)

  free_room : position (is_of (Some s)) f ≡ None → position (is_of None) f ≡ Some k → unknown row 5 after ≤ frees after
  free_room none e =
      let p = position-Some (is_of None) f k None e in
      let o : old ≡ None = vacant_is old p.1 in
      let sums = sum_by-set is_free f k (Some s) None p.0 in
      let was : is_free old ≡ 1 = ap is_free o in
      let mine_known : knows after s ≡ true = some_known (position (is_of (Some s)) after) (λ n.
      let h : k < length after = let g = length-set f k (Some s) in let below = p.0 in omega (arith, g, below) in
      let no_one = position_none (is_of (Some s)) after k None n h in
      differ (sym no_one ∙ ap (is_of (Some s)) (get_or-set_same f k (Some s) None p.0) ∙ self_same s)) in
      let more : (t : ℕ) → knows f t ≡ true → knows after t ≡ true = λ t known. by_test t (nat_eq t s) refl known mine_known o in
      let falls = unknown_falls row 5 m f after more small (subst (λ x. knows f x ≡ false) (sym is) (ap is_some none)) (subst (λ x. knows after x ≡ true) (sym is) mine_known) in
      omega (arith, sums, was, falls, room)
    where
      differ : false ≡ true → ⊥
      differ e = cc

      other : (s t : ℕ) → nat_eq t s ≡ false → is_same_node (Some s) (Some t) ≡ false
      other s t e = grind arith

      by_test : (t : ℕ) (x : Bool) → nat_eq t s ≡ x → knows f t ≡ true → knows after s ≡ true → old ≡ None → knows after t ≡ true
      by_test t true e known mine_known o = let i : s ≡ t = grind arith in subst (λ x. knows after x ≡ true) i mine_known
      by_test t false e known mine_known o =
          let same : is_of (Some t) (Some s) ≡ is_of (Some t) old = other s t e ∙ sym (ap (is_of (Some t)) o) in
          ap is_some (position_set (is_of (Some t)) f k (Some s) None same) ∙ known

  room_by : (known : Option ℕ) → position (is_of (Some s)) f ≡ known → or_else known (position (is_of None) f) ≡ Some k → unknown row 5 after ≤ frees after
  room_by None e o = free_room e o
  room_by (Some j) e o = own_room (e ∙ o)

  owners_kept : or_else (position (is_of (Some s)) f) (position (is_of None) f) ≡ Some k → unknown row 5 after ≤ frees after
  owners_kept e = room_by _ refl e

-- ---- places of any kind, by their owners
prefix_map : {A B : Type 0} (p : B → Bool) (f : A → B) (xs : List A) → prefix_len p (map f xs) ≡ prefix_len (λ x. p (f x)) xs
prefix_map p f [] = refl
prefix_map p f (x ∷ xs) = ap (λ n. cond (p (f x)) (1 + n) 0) (prefix_map p f xs)

pub position_map : {A B : Type 0} (p : B → Bool) (f : A → B) (xs : List A) → position p (map f xs) ≡ position (λ x. p (f x)) xs
position_map p f xs =
    ap (λ n. cond (nat_lt n (length (map f xs))) (Some n) None) (prefix_map (λ y. not (p y)) f xs)
    ∙ ap (λ n. cond (nat_lt (prefix_len (λ x. not (p (f x))) xs) n) (Some (prefix_len (λ x. not (p (f x))) xs)) None) (length-map xs f)

module _ {A : Type 0} (owner : A → Option ℕ) where
  abbrev pub owners : List A → Owners
  owners xs = map owner xs

  -- there are as many free places as nodes without one
  abbrev pub HasRoom : (ℕ → ℕ) → List A → Type 0
  HasRoom row xs = unknown row 5 (owners xs) ≤ frees (owners xs)

  placed : (s : ℕ) (xs : List A) → owned_place owner s xs ≡ or_else (position (is_of (Some s)) (owners xs)) (position (is_of None) (owners xs))
  unfolding owned_place
  placed s xs =
      ap (λ o. or_else o (position (is_owned_by owner None) xs)) (sym (position_map (is_of (Some s)) owner xs))
      ∙ ap (or_else (position (is_of (Some s)) (owners xs))) (sym (position_map (is_of None) owner xs))

  -- a node writes in its place
  pub room_kept : (row : ℕ → ℕ) (xs : List A) (s k m : ℕ) (y : A) → row m ≡ s → m < 5 → HasRoom row xs → owned_place owner s xs ≡ Some k → owner y ≡ Some s → HasRoom row (slice_set xs k y)
  room_kept row xs s k m y is small room e o =
      subst (λ os. unknown row 5 os ≤ frees os) (sym (map-set owner xs k y ∙ ap (slice_set (owners xs) k) o))
      (owners_kept row (owners xs) s k m is small room (sym (placed s xs) ∙ e))

-- ---- a new filter
unknown_most : (row : ℕ → ℕ) (n : ℕ) (f : Owners) → unknown row n f ≤ n
unknown_most row zero f = omega arith
unknown_most row (suc n) f = let a = most (knows f (row n)) in let b = unknown_most row n f in omega (arith, a, b)
  where
    most : (x : Bool) → unknown_one x ≤ 1
    most true = omega arith
    most false = omega arith

-- no place has an owner
pub new_room : (row : ℕ → ℕ) (os : Owners) → os ≡ replicate 5 None → unknown row 5 os ≤ frees os
new_room row os e = let m = unknown_most row 5 os in let f : frees os ≡ 5 = ap frees e in omega (arith, m, f)

-- ---- each of five nodes has a place or finds one
unknown_some : (row : ℕ → ℕ) (n m : ℕ) (f : Owners) → m < n → knows f (row m) ≡ false → 1 ≤ unknown row n f
unknown_some row zero m f l e = absurd (omega (arith, l))
unknown_some row (suc n) m f l e = by_test (nat_eq m n) refl (λ below. unknown_some row n m f below e)
  where
    by_test : (x : Bool) → nat_eq m n ≡ x → (m < n → 1 ≤ unknown row n f) → 1 ≤ unknown_one (knows f (row n)) + unknown row n f
    by_test true i rest =
        let is : m ≡ n = grind arith in
        let c : unknown_one (knows f (row n)) ≡ 1 = ap unknown_one (subst (λ k. knows f (row k) ≡ false) is e) in
        omega (arith, c)
    by_test false i rest = let below : m < n = grind arith in let r = rest below in omega (arith, r)

none_free : (xs : Owners) → ((k : ℕ) → k < length xs → is_of None (slice_index_or xs k None) ≡ false) → frees xs ≡ 0
none_free [] all = refl
none_free (x ∷ xs) all =
    let a : is_free x ≡ 0 = ap (λ b. cond b 1 0) (all 0 (omega arith)) in
    let b = none_free xs (λ k l. all (suc k) (omega (arith, l))) in
    let s : frees (x ∷ xs) ≡ is_free x + frees xs = sum_by-cons is_free x xs in
    omega (arith, s, a, b)

no_room : (row : ℕ → ℕ) (m : ℕ) (f : Owners) → m < 5 → unknown row 5 f ≤ frees f → position (is_of (Some (row m))) f ≡ None → position (is_of None) f ≡ None → ⊥
no_room row m f small room a b =
    let u = unknown_some row 5 m f small (ap is_some a) in
    let z = none_free f (λ k l. position_none (is_of None) f k None b l) in
    absurd (omega (arith, u, z, room))

place_by : (row : ℕ → ℕ) (m : ℕ) (f : Owners) (known free : Option ℕ) → m < 5 → unknown row 5 f ≤ frees f → position (is_of (Some (row m))) f ≡ known → position (is_of None) f ≡ free → (k : ℕ) × (or_else known free ≡ Some k)
place_by row m f (Some k) free small room a b = (k, refl)
place_by row m f None (Some k) small room a b = (k, refl)
place_by row m f None None small room a b = absurd (no_room row m f small room a b)

pub has_room : {A : Type 0} (owner : A → Option ℕ) (row : ℕ → ℕ) (m : ℕ) (xs : List A) → m < 5 → HasRoom owner row xs → (k : ℕ) × (owned_place owner (row m) xs ≡ Some k)
has_room owner row m xs small room =
    let p = place_by row m (owners owner xs) _ _ small room refl refl in
    (p.0, placed owner (row m) xs ∙ p.1)
