-- Sums over the ORBs that were appended, and over places: a sum that is less at some of these ORBs is less by as much.
use Rattle.sbp_world.proofs.Words.Std.{arith, ◌≡◌, ◌∙◌, refl, sym, ap, subst, ◌<◌, ◌≤◌, ◌+◌, ◌*◌, ℕ, zero, suc, nat_eq, Bool, true, false, cond, List, [], ◌∷◌, nat_tests, false≢true}
use Rattle.sbp_world.proofs.Words.Wire.{Moment, Note, NoteBuffer, asked, said}
use Rattle.sbp_world.proofs.Words.Laws.{OrderLaw, appends}
use Rattle.sbp_world.proofs.Common.{itself}
use Rattle.sbp_journal.specs.declared.note.Note.TheVariants as notes
use Rattle.sbp_world.specs.Counting.Rooms.{over_appends, over_places}

abbrev pub Numbers : Type 0
Numbers = ℕ → ℕ → ℕ → ℕ

-- ---- moments by what they append

pub data Appends : Moment → Type 0 where
  of_append : (i n k : ℕ) (cdb : List ℕ) (buffer : NoteBuffer) → Appends (said (notes.Append i n k cdb buffer))
  of_none : (moment : Moment) → ((f : Numbers) (past : List Moment) → over_appends f (moment ∷ past) ≡ over_appends f past) → ((i n : ℕ) (past : List Moment) → appends (moment ∷ past) i n ≡ appends past i n) → Appends moment

note_appends : (note : Note) → Appends (said note)
note_appends (notes.Append i n k cdb buffer) = of_append i n k cdb buffer
note_appends (notes.Begin initiators ready) = of_none _ (λ f past. refl) (λ i n past. refl)
note_appends (notes.Sent serial generation from to bytes) = of_none _ (λ f past. refl) (λ i n past. refl)
note_appends note = of_none (said note) (λ f past. refl) (λ i n past. refl)

pub appends_of : (moment : Moment) → Appends moment
appends_of (asked line event) = of_none (asked line event) (λ f past. refl) (λ i n past. refl)
appends_of (said note) = note_appends note

-- ---- sums
least_more : (f g : Numbers) → ((i n k : ℕ) → g i n k ≤ f i n k) → (past : List Moment) → over_appends g past ≤ over_appends f past → (m : Moment) → Appends m → over_appends g (m ∷ past) ≤ over_appends f (m ∷ past)
least_more f g le past rest _ (of_append i n k cdb buffer) = let one = le i n k in omega (arith, one, rest)
least_more f g le past rest m (of_none _ same none) = let a = same f past in let b = same g past in omega (arith, a, b, rest)

pub over_least : (f g : Numbers) → ((i n k : ℕ) → g i n k ≤ f i n k) → (past : List Moment) → over_appends g past ≤ over_appends f past
over_least f g le [] = omega arith
over_least f g le (m ∷ past) = least_more f g le past (over_least f g le past) m (appends_of m)

sum_more : (f g : Numbers) (past : List Moment) → over_appends (λ i n k. f i n k + g i n k) past ≡ over_appends f past + over_appends g past → (m : Moment) → Appends m → over_appends (λ i n k. f i n k + g i n k) (m ∷ past) ≡ over_appends f (m ∷ past) + over_appends g (m ∷ past)
sum_more f g past rest _ (of_append i n k cdb buffer) = omega (arith, rest)
sum_more f g past rest m (of_none _ same none) =
    let a = same f past in
    let b = same g past in
    let c = same (λ i n k. f i n k + g i n k) past in
    omega (arith, a, b, c, rest)

pub over_sum : (f g : Numbers) (past : List Moment) → over_appends (λ i n k. f i n k + g i n k) past ≡ over_appends f past + over_appends g past
over_sum f g [] = refl
over_sum f g (m ∷ past) = sum_more f g past (over_sum f g past) m (appends_of m)

none_more : (past : List Moment) → over_appends (λ i n k. 0) past ≡ 0 → (m : Moment) → Appends m → over_appends (λ i n k. 0) (m ∷ past) ≡ 0
none_more past rest _ (of_append i n k cdb buffer) = omega (arith, rest)
none_more past rest m (of_none _ same none) = same (λ i n k. 0) past ∙ rest

over_none : (past : List Moment) → over_appends (λ i n k. 0) past ≡ 0
over_none [] = refl
over_none (m ∷ past) = none_more past (over_none past) m (appends_of m)

pub over_twice : (f : Numbers) (past : List Moment) → over_appends (λ i n k. 2 * f i n k) past ≡ 2 * over_appends f past
over_twice f past =
    let both = over_sum f f past in
    let low = over_least (λ i n k. f i n k + f i n k) (λ i n k. 2 * f i n k) (λ i n k. omega arith) past in
    let high = over_least (λ i n k. 2 * f i n k) (λ i n k. f i n k + f i n k) (λ i n k. omega arith) past in
    omega (arith, both, low, high)

-- ---- an ORB that was appended
pub data HasAppend (i n k : ℕ) : List Moment → Type 0 where
  here : (cdb : List ℕ) (buffer : NoteBuffer) (past : List Moment) → HasAppend i n k (said (notes.Append i n k cdb buffer) ∷ past)
  behind : (m : Moment) (past : List Moment) → HasAppend i n k past → HasAppend i n k (m ∷ past)

grows : (f : Numbers) (past : List Moment) (m : Moment) → Appends m → over_appends f past ≤ over_appends f (m ∷ past)
grows f past _ (of_append i n k cdb buffer) = omega arith
grows f past m (of_none _ same none) = let a = same f past in omega (arith, a)

pub has_one : (f : Numbers) (i n k : ℕ) (past : List Moment) → HasAppend i n k past → f i n k ≤ over_appends f past
has_one f i n k _ (here cdb buffer past) = omega arith
has_one f i n k _ (behind m past h) = let rest = has_one f i n k past h in let more = grows f past m (appends_of m) in omega (arith, rest, more)

-- by the order law those are all below the number of appends
module _ (wild : ℕ → Bool) (i n k : ℕ) where
  last_one : (past : List Moment) (j l h : ℕ) (cdb : List ℕ) (buffer : NoteBuffer) → i ≡ j → n ≡ l → k ≡ h → HasAppend i n k (said (notes.Append j l h cdb buffer) ∷ past)
  last_one past j l h cdb buffer same_i same_n same_k =
      subst (λ a. HasAppend i n k (said (notes.Append a l h cdb buffer) ∷ past)) same_i
      (subst (λ a. HasAppend i n k (said (notes.Append i a h cdb buffer) ∷ past)) same_n
      (subst (λ a. HasAppend i n k (said (notes.Append i n a cdb buffer) ∷ past)) same_k (here cdb buffer past)))

  by_append : (past : List Moment) (j l h : ℕ) (cdb : List ℕ) (buffer : NoteBuffer) → h ≡ appends past j l → (k < appends past i n → HasAppend i n k past) → (x y z : Bool) → nat_eq i j ≡ x → nat_eq n l ≡ y → nat_eq k h ≡ z → k < cond x (cond y (suc (appends past j l)) (appends past i n)) (appends past i n) → HasAppend i n k (said (notes.Append j l h cdb buffer) ∷ past)
  by_append past j l h cdb buffer number rest true true true e f g b =
      let same_i : i ≡ j = grind (arith, nat_tests) in
      let same_n : n ≡ l = grind (arith, nat_tests) in
      let same_k : k ≡ h = grind (arith, nat_tests) in
      last_one past j l h cdb buffer same_i same_n same_k
  by_append past j l h cdb buffer number rest true true false e f g b =
      let same_i : i ≡ j = grind (arith, nat_tests) in
      let same_n : n ≡ l = grind (arith, nat_tests) in
      let other : k ≡ h → ⊥ = λ same. false≢true (sym g ∙ (let z : nat_eq k h ≡ true = grind (arith, nat_tests) in z)) in
      let at : appends past i n ≡ appends past j l = ap (λ a. appends past a n) same_i ∙ ap (appends past j) same_n in
      let low : k < suc (appends past j l) = b in
      behind _ past (rest (grind arith))
  by_append past j l h cdb buffer number rest true false z e f g b = behind _ past (rest b)
  by_append past j l h cdb buffer number rest false y z e f g b = behind _ past (rest b)

  appended_more : (past : List Moment) → (k < appends past i n → HasAppend i n k past) → (m : Moment) → OrderLaw wild (m ∷ past) → Appends m → k < appends (m ∷ past) i n → HasAppend i n k (m ∷ past)
  appended_more past rest _ law (of_append j l h cdb buffer) b = by_append past j l h cdb buffer law.0.number rest (nat_eq i j) (nat_eq n l) (nat_eq k h) refl refl refl b
  appended_more past rest m law (of_none _ same none) b = behind m past (rest (subst (λ a. k < a) (none i n past) b))

  pub has_appended : (past : List Moment) → OrderLaw wild past → k < appends past i n → HasAppend i n k past
  has_appended [] law b = absurd (omega (arith, b))
  has_appended (m ∷ past) law b = appended_more past (λ c. has_appended past law.1 c) m law (appends_of m) b

pub places_twice : (f : ℕ → ℕ) (places : ℕ) → over_places (λ p. 2 * f p) places ≡ 2 * over_places f places
unfolding over_places
places_twice f zero = refl
places_twice f (suc p) = let rest = places_twice f p in omega (arith, rest)

-- ---- what is paid at ORBs, one for a place
module _ (i_of n_of k_of q : ℕ → ℕ) where
  abbrev paid_at : (p : ℕ) → Numbers
  paid_at p i n k = cond (nat_eq i (i_of p)) (cond (nat_eq n (n_of p)) (cond (nat_eq k (k_of p)) (q p) 0) 0) 0

  abbrev paid : (places : ℕ) → Numbers
  paid places i n k = over_places (λ p. paid_at p i n k) places

  sum_paid : (past : List Moment) (places : ℕ) → over_places (λ p. over_appends (paid_at p) past) places ≡ over_appends (paid places) past
  unfolding over_places
  sum_paid past zero = sym (over_none past)
  sum_paid past (suc p) =
      let rest = sum_paid past p in
      let both = over_sum (paid_at p) (paid p) past in
      omega (arith, rest, both)

  at_itself : (p : ℕ) → paid_at p (i_of p) (n_of p) (k_of p) ≡ q p
  at_itself p =
      ap (λ b. cond b (cond (nat_eq (n_of p) (n_of p)) (cond (nat_eq (k_of p) (k_of p)) (q p) 0) 0) 0) (itself (i_of p))
      ∙ ap (λ b. cond b (cond (nat_eq (k_of p) (k_of p)) (q p) 0) 0) (itself (n_of p))
      ∙ ap (λ b. cond b (q p) 0) (itself (k_of p))

  abbrev pub IsPaid : List Moment → ℕ → Type 0
  IsPaid past p = 0 < q p → HasAppend (i_of p) (n_of p) (k_of p) past

  one_least : (past : List Moment) (p : ℕ) → IsPaid past p → (b : Bool) → nat_eq (q p) 0 ≡ b → q p ≤ over_appends (paid_at p) past
  one_least past p h true e = let none : q p ≡ 0 = grind (arith, nat_tests) in omega (arith, none)
  one_least past p h false e =
      let other : q p ≡ 0 → ⊥ = λ same. false≢true (sym e ∙ (let z : nat_eq (q p) 0 ≡ true = grind (arith, nat_tests) in z)) in
      let some : 0 < q p = grind arith in
      let one = has_one (paid_at p) (i_of p) (n_of p) (k_of p) past (h some) in
      let own = at_itself p in
      omega (arith, one, own)

  all_least : (past : List Moment) (places : ℕ) → ((p : ℕ) → p < places → IsPaid past p) → over_places q places ≤ over_places (λ p. over_appends (paid_at p) past) places
  unfolding over_places
  all_least past zero h = omega arith
  all_least past (suc p) h =
      let one = one_least past p (h p (omega arith)) (nat_eq (q p) 0) refl in
      let rest = all_least past p (λ r b. h r (omega (arith, b))) in
      omega (arith, one, rest)

  -- ---- no two places pay at one ORB
  module _ (most : ℕ) (apart : (p r : ℕ) → p < most → r < most → 0 < q p → 0 < q r → i_of p ≡ i_of r → p ≡ r) (i n k : ℕ) where
    data Paid (places : ℕ) : Type 0 where
      nothing : paid places i n k ≡ 0 → Paid places
      one_of : (p : ℕ) → p < places → i ≡ i_of p → n ≡ n_of p → k ≡ k_of p → 0 < q p → paid places i n k ≡ q p → Paid places

    nothing_more : (p : ℕ) → paid_at p i n k ≡ 0 → Paid p → Paid (suc p)
    unfolding over_places
    nothing_more p e (nothing none) = nothing (omega (arith, e, none))
    nothing_more p e (one_of r b same_i same_n same_k some is) = one_of r (omega (arith, b)) same_i same_n same_k some (omega (arith, e, is))

    one_more : (p : ℕ) → p < most → i ≡ i_of p → n ≡ n_of p → k ≡ k_of p → 0 < q p → paid_at p i n k ≡ q p → Paid p → Paid (suc p)
    unfolding over_places
    one_more p l same_i same_n same_k some e (nothing none) = one_of p (omega arith) same_i same_n same_k some (omega (arith, e, none))
    one_more p l same_i same_n same_k some e (one_of r b other_i other_n other_k more is) =
        let same : p ≡ r = apart p r l (omega (arith, l, b)) some more (sym same_i ∙ other_i) in absurd (omega (arith, same, b))

    matched : (p : ℕ) → p < most → Paid p → i ≡ i_of p → n ≡ n_of p → k ≡ k_of p → paid_at p i n k ≡ q p → (b : Bool) → nat_eq (q p) 0 ≡ b → Paid (suc p)
    matched p l rest same_i same_n same_k is true e =
        let none : q p ≡ 0 = grind (arith, nat_tests) in nothing_more p (is ∙ none) rest
    matched p l rest same_i same_n same_k is false e =
        let other : q p ≡ 0 → ⊥ = λ same. false≢true (sym e ∙ (let z : nat_eq (q p) 0 ≡ true = grind (arith, nat_tests) in z)) in
        let some : 0 < q p = grind arith in
        one_more p l same_i same_n same_k some is rest

    abbrev tested : Bool → Bool → Bool → ℕ → ℕ
    tested x y z value = cond x (cond y (cond z value 0) 0) 0

    found_more : (p : ℕ) → p < most → Paid p → (x y z : Bool) → nat_eq i (i_of p) ≡ x → nat_eq n (n_of p) ≡ y → nat_eq k (k_of p) ≡ z → paid_at p i n k ≡ tested x y z (q p) → Paid (suc p)
    found_more p l rest true true true e f g is =
        matched p l rest (grind (arith, nat_tests)) (grind (arith, nat_tests)) (grind (arith, nat_tests)) is (nat_eq (q p) 0) refl
    found_more p l rest true true false e f g is = nothing_more p is rest
    found_more p l rest true false z e f g is = nothing_more p is rest
    found_more p l rest false y z e f g is = nothing_more p is rest

    find_paid : (places : ℕ) → places ≤ most → Paid places
    unfolding over_places
    find_paid zero b = nothing refl
    find_paid (suc p) b =
        found_more p (omega (arith, b)) (find_paid p (omega (arith, b))) (nat_eq i (i_of p)) (nat_eq n (n_of p)) (nat_eq k (k_of p)) refl refl refl refl

  -- ---- one sum is less than another at these ORBs by as much
  pub record Falls (most : ℕ) (past : List Moment) (f g : Numbers) : Type 0 where
    pub apart : (p r : ℕ) → p < most → r < most → 0 < q p → 0 < q r → i_of p ≡ i_of r → p ≡ r
    pub least : (i n k : ℕ) → g i n k ≤ f i n k
    pub less : (p : ℕ) → p < most → 0 < q p → g (i_of p) (n_of p) (k_of p) + q p ≤ f (i_of p) (n_of p) (k_of p)
    pub has : (p : ℕ) → p < most → IsPaid past p

  module _ (most : ℕ) (past : List Moment) (f g : Numbers) (falls : Falls most past f g) where
    within : (i n k : ℕ) → Paid most falls.apart i n k most → g i n k + paid most i n k ≤ f i n k
    within i n k (nothing none) = let one = falls.least i n k in omega (arith, none, one)
    within i n k (one_of p b same_i same_n same_k some is) =
        let one : g i n k + q p ≤ f i n k =
        subst (λ a. g a n k + q p ≤ f a n k) (sym same_i)
        (subst (λ a. g (i_of p) a k + q p ≤ f (i_of p) a k) (sym same_n)
        (subst (λ a. g (i_of p) (n_of p) a + q p ≤ f (i_of p) (n_of p) a) (sym same_k) (falls.less p b some))) in
        omega (arith, one, is)

    pub sum_falls : over_appends g past + over_places q most ≤ over_appends f past
    sum_falls =
        let sum = over_sum g (paid most) past in
        let all = over_least f (λ i n k. g i n k + paid most i n k) (λ i n k. within i n k (find_paid most falls.apart i n k most (omega arith))) past in
        let places = sum_paid past most in
        let least = all_least past most falls.has in
        omega (arith, sum, all, places, least)
