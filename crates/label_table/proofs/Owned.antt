-- Places that are given to nodes: a change in the place of one node is seen by that node alone.
use Rattle.std.specs.Prelude.{◌≡◌, ◌≢◌, ℕ, ◌<◌, not, nat_eq, Bool, true, false, cond, List, length, position, slice_set, slice_index_or, Option, Some, None, refl}
use Rattle.std.specs.List.{position_or_len}
use Rattle.std.proofs.Common.{arith, sym, ◌∙◌, ap, subst}
use Rattle.std.proofs.lemmas.Grind.{common_steps}
use Rattle.std.proofs.lemmas.List.Sums.{prefix_len_passes}
use Rattle.std.proofs.lemmas.List.Quantifiers.{position-Some}
use Rattle.std.proofs.lemmas.List.Folds.{position_or_len-set}
use Rattle.std.proofs.Math.ListN.{length-set}
use Rattle.std.proofs.lemmas.List.{get_or-set_same, get_or-set_other}
use Rattle.label_table.specs.Owned.{is_same_node, or_else, is_owned_by, owned_place, shown_in, shown}

position_set : {A : Type 0} (p : A → Bool) (xs : List A) (i : ℕ) (y d : A) → p y ≡ p (slice_index_or xs i d) → position p (slice_set xs i y) ≡ position p xs
position_set p xs i y d e = let f = position_or_len-set p xs i y d e in let g = length-set xs i y in rw (f, g)

none_from : {A : Type 0} (p : A → Bool) (xs : List A) (k : ℕ) (d : A) → k < position_or_len p xs → k < length xs → p (slice_index_or xs k d) ≡ false
none_from p xs k d e h = let q = prefix_len_passes (λ x. not (p x)) xs k d e in grind arith

pub position_none : {A : Type 0} (p : A → Bool) (xs : List A) (k : ℕ) (d : A) → position p xs ≡ None → k < length xs → p (slice_index_or xs k d) ≡ false
position_none p xs k d e h = none_from p xs k d (grind arith) h

-- an element that passes where none did is the first that does
only_at : {A : Type 0} (p : A → Bool) (xs : List A) (i j : ℕ) (y d : A) → position p xs ≡ None → position p (slice_set xs i y) ≡ Some j → i ≡ j
only_at p xs i j y d e f =
    let s = position-Some p (slice_set xs i y) j d f in
    let n = position_none p xs j d e in
    let g = length-set xs i y in
    let o : j ≢ i → slice_index_or (slice_set xs i y) j d ≡ slice_index_or xs j d = get_or-set_other xs i j y d in
    grind arith

one_at : {A : Type 0} (p : A → Bool) (xs : List A) (i : ℕ) (y d : A) → i < length xs → p y ≡ true → position p (slice_set xs i y) ≢ None
one_at p xs i y d h t f =
    let n = position_none p (slice_set xs i y) i d f in
    let g = length-set xs i y in
    let o = get_or-set_same xs i y d h in
    grind arith

new_at : {A : Type 0} (p : A → Bool) (xs : List A) (i : ℕ) (y d : A) → position p xs ≡ None → i < length xs → p y ≡ true → (found : Option ℕ) → position p (slice_set xs i y) ≡ found → found ≡ Some i
new_at p xs i y d e h t None f = absurd (one_at p xs i y d h t f)
new_at p xs i y d e h t (Some j) f = ap Some (sym (only_at p xs i j y d e f))

position_new : {A : Type 0} (p : A → Bool) (xs : List A) (i : ℕ) (y d : A) → position p xs ≡ None → i < length xs → p y ≡ true → position p (slice_set xs i y) ≡ Some i
position_new p xs i y d e h t = new_at p xs i y d e h t _ refl

not_other : (o : Option ℕ) (s t : ℕ) → is_same_node o (Some t) ≡ true → s ≢ t → is_same_node o (Some s) ≡ false
not_other None s t e n = refl
not_other (Some u) s t e n = grind arith

not_none : (o : Option ℕ) (s : ℕ) → is_same_node o None ≡ true → is_same_node o (Some s) ≡ false
not_none None s e = refl
not_none (Some u) s e = cc

same_self : (s : ℕ) → is_same_node (Some s) (Some s) ≡ true
same_self s = grind arith

is_none : (o : Option ℕ) → is_same_node o None ≡ true → o ≡ None
is_none None e = refl
is_none (Some s) e = cc

pub set_at : {A : Type 0} (xs : List A) (k j : ℕ) (y d : A) → k < length xs → slice_index_or (slice_set xs k y) j d ≡ cond (nat_eq j k) y (slice_index_or xs j d)
set_at xs k j y d h = grind (arith, common_steps)

-- a place that a node has or may take
pub record Holds {A : Type 0} (owner : A → Option ℕ) (d : A) (t : ℕ) (xs : List A) (k : ℕ) : Type 0 where
  pub below : k < length xs
  pub others : (s : ℕ) → s ≢ t → is_owned_by owner (Some s) (slice_index_or xs k d) ≡ false

holds_in : {A : Type 0} (owner : A → Option ℕ) (d : A) (t : ℕ) (xs : List A) (k : ℕ) (known : Option ℕ) → position (is_owned_by owner (Some t)) xs ≡ known → or_else known (position (is_owned_by owner None) xs) ≡ Some k → Holds owner d t xs k
holds_in owner d t xs k None e h = let p = position-Some (is_owned_by owner None) xs k d h in record { below = p.0; others = λ s n. not_none _ s p.1 }
holds_in owner d t xs k (Some j) e h = let p = position-Some (is_owned_by owner (Some t)) xs k d (e ∙ h) in record { below = p.0; others = λ s n. not_other _ s t p.1 n }

pub holds : {A : Type 0} (owner : A → Option ℕ) (d : A) (t : ℕ) (xs : List A) (k : ℕ) → owned_place owner t xs ≡ Some k → Holds owner d t xs k
unfolding owned_place
holds owner d t xs k e = holds_in owner d t xs k _ refl e

-- a place that no node has shows what is shown where there is none
abbrev pub IsBlank : {A B : Type 0} → (A → Option ℕ) → (A → B) → A → B → List A → Type 0
IsBlank owner look d blank xs = (k : ℕ) → owner (slice_index_or xs k d) ≡ None → look (slice_index_or xs k d) ≡ blank

blank_in : {A B : Type 0} (owner : A → Option ℕ) (look : A → B) (d : A) (blank : B) (xs : List A) → IsBlank owner look d blank xs → (free : Option ℕ) → position (is_owned_by owner None) xs ≡ free → shown_in look d blank free xs ≡ blank
blank_in owner look d blank xs b None e = refl
blank_in owner look d blank xs b (Some k) e = let p = position-Some (is_owned_by owner None) xs k d e in b k (is_none _ p.1)

pub unknown_shown : {A B : Type 0} (owner : A → Option ℕ) (look : A → B) (d : A) (blank : B) (s : ℕ) (xs : List A) → IsBlank owner look d blank xs → position (is_owned_by owner (Some s)) xs ≡ None → shown owner look d blank s xs ≡ blank
unfolding owned_place
unknown_shown owner look d blank s xs b e = rw e (blank_in owner look d blank xs b _ refl)

known_place : {A : Type 0} (owner : A → Option ℕ) (s : ℕ) (xs : List A) (j : ℕ) → position (is_owned_by owner (Some s)) xs ≡ Some j → owned_place owner s xs ≡ Some j
unfolding owned_place
known_place owner s xs j e = rw e

own_by : {A : Type 0} (owner : A → Option ℕ) (d : A) (s : ℕ) (xs : List A) (k : ℕ) (y : A) (known : Option ℕ) → k < length xs → owner y ≡ Some s → position (is_owned_by owner (Some s)) xs ≡ known → or_else known (position (is_owned_by owner None) xs) ≡ Some k → owned_place owner s (slice_set xs k y) ≡ Some k
own_by owner d s xs k y None h o e g = known_place owner s _ k (position_new (is_owned_by owner (Some s)) xs k y d e h (ap (λ n. is_same_node n (Some s)) o ∙ same_self s))
own_by owner d s xs k y (Some j) h o e g =
    let p = position-Some (is_owned_by owner (Some s)) xs k d (e ∙ g) in
    let n : is_owned_by owner (Some s) y ≡ true = ap (λ n. is_same_node n (Some s)) o ∙ same_self s in
    known_place owner s _ k (position_set (is_owned_by owner (Some s)) xs k y d (n ∙ sym p.1) ∙ e ∙ g)

-- a node keeps its place
pub own_place : {A : Type 0} (owner : A → Option ℕ) (d : A) (s : ℕ) (xs : List A) (k : ℕ) (y : A) → owned_place owner s xs ≡ Some k → owner y ≡ Some s → owned_place owner s (slice_set xs k y) ≡ Some k
unfolding owned_place
own_place owner d s xs k y e o = own_by owner d s xs k y _ (holds owner d s xs k e).below o refl e

-- and sees what is put there
pub own_shown : {A B : Type 0} (owner : A → Option ℕ) (look : A → B) (d : A) (blank : B) (s : ℕ) (xs : List A) (k : ℕ) (y : A) → owned_place owner s xs ≡ Some k → owner y ≡ Some s → shown owner look d blank s (slice_set xs k y) ≡ look y
own_shown owner look d blank s xs k y e o =
    let h = (holds owner d s xs k e).below in
    rw (own_place owner d s xs k y e o) (ap look (get_or-set_same xs k y d h))

blank_set : {A B : Type 0} (owner : A → Option ℕ) (look : A → B) (d : A) (blank : B) (xs : List A) (k t : ℕ) (y : A) → k < length xs → owner y ≡ Some t → IsBlank owner look d blank xs → IsBlank owner look d blank (slice_set xs k y)
blank_set owner look d blank xs k t y h o b = λ j n. let e = set_at xs k j y d h in let c = b j in grind arith

other_by : {A B : Type 0} (owner : A → Option ℕ) (look : A → B) (d : A) (blank : B) (s t : ℕ) (xs : List A) (k : ℕ) (y : A) (known : Option ℕ) → IsBlank owner look d blank xs → k < length xs → owner y ≡ Some t → is_owned_by owner (Some s) (slice_index_or xs k d) ≡ false → position (is_owned_by owner (Some s)) xs ≡ known → position (is_owned_by owner (Some s)) (slice_set xs k y) ≡ known → shown owner look d blank s (slice_set xs k y) ≡ shown owner look d blank s xs
other_by owner look d blank s t xs k y None b h o n e g =
    unknown_shown owner look d blank s (slice_set xs k y) (blank_set owner look d blank xs k t y h o b) g ∙ sym (unknown_shown owner look d blank s xs b e)
other_by owner look d blank s t xs k y (Some j) b h o n e g =
    let p = position-Some (is_owned_by owner (Some s)) xs j d e in
    let q = set_at xs k j y d h in
    let apart : j ≢ k = λ m. grind arith in
    let same : slice_index_or (slice_set xs k y) j d ≡ slice_index_or xs j d = grind arith in
    rw (known_place owner s (slice_set xs k y) j g, known_place owner s xs j e) (ap look same)

-- the others see what they saw
pub other_shown : {A B : Type 0} (owner : A → Option ℕ) (look : A → B) (d : A) (blank : B) (s t : ℕ) (xs : List A) (k : ℕ) (y : A) → IsBlank owner look d blank xs → owned_place owner t xs ≡ Some k → owner y ≡ Some t → s ≢ t → shown owner look d blank s (slice_set xs k y) ≡ shown owner look d blank s xs
other_shown owner look d blank s t xs k y b e o n =
    let h = holds owner d t xs k e in
    let new : is_owned_by owner (Some s) y ≡ false = grind arith in
    let same = position_set (is_owned_by owner (Some s)) xs k y d (new ∙ sym (h.others s n)) in
    other_by owner look d blank s t xs k y _ b h.below o (h.others s n) refl same

set_shown_by : {A B : Type 0} (owner : A → Option ℕ) (look : A → B) (d : A) (blank : B) (t s : ℕ) (xs : List A) (k : ℕ) (y : A) (same : Bool) → IsBlank owner look d blank xs → owned_place owner s xs ≡ Some k → owner y ≡ Some s → nat_eq t s ≡ same → shown owner look d blank t (slice_set xs k y) ≡ cond same (look y) (shown owner look d blank t xs)
set_shown_by owner look d blank t s xs k y true b e o same =
    let i : s ≡ t = grind arith in
    subst (λ u. shown owner look d blank u (slice_set xs k y) ≡ look y) i (own_shown owner look d blank s xs k y e o)
set_shown_by owner look d blank t s xs k y false b e o same =
    let i : t ≢ s = λ m. grind arith in other_shown owner look d blank t s xs k y b e o i

-- what each node sees once the place of one is changed
pub set_shown : {A B : Type 0} (owner : A → Option ℕ) (look : A → B) (d : A) (blank : B) (t s : ℕ) (xs : List A) (k : ℕ) (y : A) → IsBlank owner look d blank xs → owned_place owner s xs ≡ Some k → owner y ≡ Some s → shown owner look d blank t (slice_set xs k y) ≡ cond (nat_eq t s) (look y) (shown owner look d blank t xs)
set_shown owner look d blank t s xs k y b e o = set_shown_by owner look d blank t s xs k y _ b e o refl

owner_by : (o : Option ℕ) (s : ℕ) → is_same_node o (Some s) ≡ true → o ≡ Some s
owner_by None s e = cc
owner_by (Some t) s e = let i : t ≡ s = grind arith in ap Some i

owner_in : {A : Type 0} (owner : A → Option ℕ) (d : A) (s : ℕ) (xs : List A) (k : ℕ) (known : Option ℕ) → position (is_owned_by owner (Some s)) xs ≡ known → or_else known (position (is_owned_by owner None) xs) ≡ Some k → owner (slice_index_or xs k d) ≢ None → owner (slice_index_or xs k d) ≡ Some s
owner_in owner d s xs k None e h n = absurd (n (is_none _ (position-Some (is_owned_by owner None) xs k d h).1))
owner_in owner d s xs k (Some j) e h n = owner_by _ s (position-Some (is_owned_by owner (Some s)) xs k d (e ∙ h)).1

-- a place that is not vacant is the node's own
pub owner_found : {A : Type 0} (owner : A → Option ℕ) (d : A) (s : ℕ) (xs : List A) (k : ℕ) → owned_place owner s xs ≡ Some k → owner (slice_index_or xs k d) ≢ None → owner (slice_index_or xs k d) ≡ Some s
unfolding owned_place
owner_found owner d s xs k e n = owner_in owner d s xs k _ refl e n
