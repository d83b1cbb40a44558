-- A slot has its ORB, used or at rest, until this ORB is over, or its initiator sees another generation: by every history, and so in every run. Until then no
-- other ORB is prepared there.
use Rattle.sbp_world.proofs.Words.Std.{◌<◌, length, arith, ◌≡◌, ◌∙◌, refl, sym, ap, subst, inl, inr, ◌⊎◌, ◌==◌, ◌&&◌, not, ℕ, zero, suc, nat_eq, Bool, true, false, cond, List, [], ◌∷◌, ◌++◌, map, Some, slice_index_or, slice_set, nat_tests}
use Rattle.sbp_world.proofs.Words.Wire.{Moment, asked, said, terms, NoteBuffer}
use Rattle.sbp_world.proofs.Words.Initiator.{row_of}
use Rattle.sbp_world.proofs.Words.Laws.{Orb, SlotState, freed, is_orb, is_over, is_used, is_vacant, lowest_vacant, new_slots, orb, prepared_in, put_to_rest, resting, rests_at, slot_is_open, slots, used, vacant}
use Rattle.sbp_world.proofs.Words.World.{HasSlot, IsGone, SlotsStayLaw, saw, was_over}
use Rattle.std.proofs.Common.{get_or-set_same}
use Rattle.sbp_journal.specs.declared.note.Note.TheVariants as notes
use Rattle.sbp_world.proofs.Common.{itself}

-- ---- rows
at_map : (f : SlotState → SlotState) → f vacant ≡ vacant → (xs : List SlotState) (k : ℕ) → slice_index_or (map f xs) k vacant ≡ f (slice_index_or xs k vacant)
at_map f e [] k = sym e
at_map f e (x ∷ xs) zero = refl
at_map f e (x ∷ xs) (suc k) = at_map f e xs k

no : true ≡ false → ⊥
no e = cc

-- the lowest free row is another one than a row that is not free
not_first : (b : Bool) (y : SlotState) (ys : List SlotState) (k : ℕ) → is_vacant y ≡ b → is_vacant (slice_index_or (y ∷ ys) k vacant) ≡ false → ((j : ℕ) → is_vacant (slice_index_or ys j vacant) ≡ false → nat_eq j (lowest_vacant ys) ≡ false) → nat_eq k (cond b 0 (suc (lowest_vacant ys))) ≡ false
not_first true y ys zero f e later = absurd (no (sym f ∙ e))
not_first true y ys (suc k) f e later = grind (arith, nat_tests)
not_first false y ys zero f e later = grind (arith, nat_tests)
not_first false y ys (suc k) f e later = let rest = later k e in grind (arith, nat_tests)

lowest_not : (xs : List SlotState) (k : ℕ) → is_vacant (slice_index_or xs k vacant) ≡ false → nat_eq k (lowest_vacant xs) ≡ false
lowest_not [] k e = absurd (no e)
lowest_not (y ∷ ys) k e = not_first (is_vacant y) y ys k refl e (lowest_not ys)

set_first : (b : Bool) (y : SlotState) (ys : List SlotState) (k : ℕ) (x : SlotState) → is_vacant y ≡ b → is_vacant (slice_index_or (y ∷ ys) k vacant) ≡ false → ((j : ℕ) → is_vacant (slice_index_or ys j vacant) ≡ false → slice_index_or (slice_set ys (lowest_vacant ys) x) j vacant ≡ slice_index_or ys j vacant) → slice_index_or (slice_set (y ∷ ys) (cond b 0 (suc (lowest_vacant ys))) x) k vacant ≡ slice_index_or (y ∷ ys) k vacant
set_first true y ys zero x f e later = absurd (no (sym f ∙ e))
set_first true y ys (suc k) x f e later = refl
set_first false y ys zero x f e later = refl
set_first false y ys (suc k) x f e later = later k e

set_other : (xs : List SlotState) (k : ℕ) (x : SlotState) → is_vacant (slice_index_or xs k vacant) ≡ false → slice_index_or (slice_set xs (lowest_vacant xs) x) k vacant ≡ slice_index_or xs k vacant
set_other [] k x e = refl
set_other (y ∷ ys) k x e = set_first (is_vacant y) y ys k x refl e (λ j f. set_other ys j x f)

module _ (i slot : ℕ) (one : Orb) where
  -- a slot has it
  abbrev pub IsIn : List SlotState → Type 0
  IsIn xs = (slice_index_or xs slot vacant ≡ used one) ⊎ (slice_index_or xs slot vacant ≡ resting)

  abbrev Has : List Moment → Type 0
  Has ms = HasSlot ms i slot one

  -- with this moment it is over, or another generation is seen
  data Gone (m : Moment) (past : List Moment) : Type 0 where
    is_over_now : is_over (m ∷ past) i one ≡ true → Gone m past
    sees_now : (generation : ℕ) → m ≡ said (notes.Seen (suc i) generation) → (generation == (terms past).generation (suc i)) ≡ false → Gone m past

  not_vacant : (xs : List SlotState) → IsIn xs → is_vacant (slice_index_or xs slot vacant) ≡ false
  not_vacant xs (inl e) = ap is_vacant e
  not_vacant xs (inr e) = ap is_vacant e

  as_in : (xs ys : List SlotState) → slice_index_or ys slot vacant ≡ slice_index_or xs slot vacant → IsIn xs → IsIn ys
  as_in xs ys e (inl f) = inl (e ∙ f)
  as_in xs ys e (inr f) = inr (e ∙ f)

  -- slots that are freed
  frees : (ms : List Moment) (xs : List SlotState) → IsIn xs → IsIn (map (freed ms i) xs) ⊎ (is_over ms i one ≡ true)
  frees ms xs (inr e) = inl (inr (at_map (freed ms i) refl xs slot ∙ ap (freed ms i) e))
  frees ms xs (inl e) = by (is_over ms i one) refl
    where
      by : (b : Bool) → is_over ms i one ≡ b → IsIn (map (freed ms i) xs) ⊎ (is_over ms i one ≡ true)
      by true f = inr f
      by false f = inl (inl (at_map (freed ms i) refl xs slot ∙ (ap (freed ms i) e ∙ ap (λ b. cond b vacant (used one)) f)))

  rests : (n k : ℕ) (xs : List SlotState) → IsIn xs → IsIn (map (rests_at n k) xs)
  rests n k xs (inr e) = inr (at_map (rests_at n k) refl xs slot ∙ ap (rests_at n k) e)
  rests n k xs (inl e) = by (is_orb one n k) refl
    where
      by : (b : Bool) → is_orb one n k ≡ b → IsIn (map (rests_at n k) xs)
      by true f = inr (at_map (rests_at n k) refl xs slot ∙ (ap (rests_at n k) e ∙ ap (λ b. cond b resting (used one)) f))
      by false f = inl (at_map (rests_at n k) refl xs slot ∙ (ap (rests_at n k) e ∙ ap (λ b. cond b resting (used one)) f))

  drops : (xs : List SlotState) → IsIn xs → IsIn (map put_to_rest xs)
  drops xs (inl e) = inr (at_map put_to_rest refl xs slot ∙ ap put_to_rest e)
  drops xs (inr e) = inr (at_map put_to_rest refl xs slot ∙ ap put_to_rest e)

  if_in : (b : Bool) (xs ys : List SlotState) → IsIn xs → IsIn ys → IsIn (cond b xs ys)
  if_in true xs ys h g = h
  if_in false xs ys h g = g

  -- behind a note, before slots are freed
  then_freed : (m : Moment) (past : List Moment) → prepared_in (m ∷ past) i slot ≡ Some one → (xs : List SlotState) → IsIn xs → slots (m ∷ past) i ≡ map (freed (m ∷ past) i) xs → Has (m ∷ past) ⊎ Gone m past
  then_freed m past there xs h e = by (frees (m ∷ past) xs h)
    where
      by : IsIn (map (freed (m ∷ past) i) xs) ⊎ (is_over (m ∷ past) i one ≡ true) → Has (m ∷ past) ⊎ Gone m past
      by (inl g) = inl (record { there = there; held = subst IsIn (sym e) g })
      by (inr o) = inr (is_over_now o)

  module _ (past : List Moment) (node generation : ℕ) (h : Has past) where
    abbrev note : Moment
    note = said (notes.Seen node generation)

    abbrev now : List Moment
    now = note ∷ past

    stays : (x y : Bool) → nat_eq node (suc i) ≡ x → (generation == (terms past).generation node) ≡ y → (x && not y) ≡ false → Has now ⊎ Gone note past
    stays x y e f g =
        then_freed note past h.there (slots past i) h.held
        (ap (λ b. map (freed now i) (cond (b && not (generation == (terms past).generation node)) new_slots (slots past i))) e
        ∙ (ap (λ b. map (freed now i) (cond (x && not b) new_slots (slots past i))) f ∙ ap (λ b. map (freed now i) (cond b new_slots (slots past i))) g))

    sees_by : (x y : Bool) → nat_eq node (suc i) ≡ x → (generation == (terms past).generation node) ≡ y → Has now ⊎ Gone note past
    sees_by false y e f = stays false y e f refl
    sees_by true true e f = stays true true e f refl
    sees_by true false e f =
        let same : node ≡ suc i = grind (arith, nat_tests) in
        inr (sees_now generation (ap (λ x. said (notes.Seen x generation)) same) (ap (λ x. generation == (terms past).generation x) (sym same) ∙ f))

    sees : Has now ⊎ Gone note past
    sees = sees_by (nat_eq node (suc i)) (generation == (terms past).generation node) refl refl

  one_on : (m : Moment) (past : List Moment) → Has past → Has (m ∷ past) ⊎ Gone m past
  one_on (asked line event) past h = inl (record { there = h.there; held = h.held })
  one_on (said (notes.Append j n k cdb buffer)) past h =
      let m = said (notes.Append j n k cdb buffer) in
      let row = not_vacant (slots past i) h.held in
      then_freed m past (prepared (nat_eq i j) refl) (cond (j == i) (slice_set (slots past i) (lowest_vacant (slots past i)) (used (orb n k))) (slots past i))
      (if_in (j == i) (slice_set (slots past i) (lowest_vacant (slots past i)) (used (orb n k))) (slots past i)
      (as_in (slots past i) (slice_set (slots past i) (lowest_vacant (slots past i)) (used (orb n k))) (set_other (slots past i) slot (used (orb n k)) row) h.held) h.held) refl
    where
      prepared : (b : Bool) → nat_eq i j ≡ b → cond b (cond (nat_eq slot (lowest_vacant (slots past j))) (Some (orb n k)) (prepared_in past i slot)) (prepared_in past i slot) ≡ Some one
      prepared false e = h.there
      prepared true e =
          let same : i ≡ j = grind (arith, nat_tests) in
          let other : nat_eq slot (lowest_vacant (slots past j)) ≡ false = ap (λ x. nat_eq slot (lowest_vacant (slots past x))) (sym same) ∙ lowest_not (slots past i) slot (not_vacant (slots past i) h.held) in
          ap (λ b. cond b (Some (orb n k)) (prepared_in past i slot)) other ∙ h.there
  one_on (said (notes.Taken j n k status answer)) past h =
      let m = said (notes.Taken j n k status answer) in
      let b = (j == i) && not ((row_of status).resp == 0) in
      then_freed m past h.there (cond b (map (rests_at n k) (slots past i)) (slots past i)) (if_in b (map (rests_at n k) (slots past i)) (slots past i) (rests n k (slots past i) h.held) h.held) refl
  one_on (said (notes.Drop j n)) past h =
      let m = said (notes.Drop j n) in
      then_freed m past h.there (cond (j == i) (map put_to_rest (slots past i)) (slots past i)) (if_in (j == i) (map put_to_rest (slots past i)) (slots past i) (drops (slots past i) h.held) h.held) refl
  one_on (said (notes.Seen node generation)) past h = sees past node generation h
  one_on (said note) past h = then_freed (said note) past h.there (slots past i) h.held refl

  -- from each moment on
  pub has_on : (later before : List Moment) → Has before → Has (later ++ before) ⊎ IsGone later before i one
  has_on [] before h = inl h
  has_on (m ∷ later) before h = by (has_on later before h)
    where
      now : Has (m ∷ (later ++ before)) ⊎ Gone m (later ++ before) → Has (m ∷ (later ++ before)) ⊎ IsGone (m ∷ later) before i one
      now (inl g) = inl g
      now (inr (is_over_now o)) = inr (was_over [] (m ∷ later) refl o)
      now (inr (sees_now generation e d)) = inr (saw [] later generation (ap (λ x. x ∷ later) (sym e)) d)

      further : IsGone later before i one → IsGone (m ∷ later) before i one
      further (was_over front back e o) = was_over (m ∷ front) back (ap (λ xs. m ∷ xs) e) o
      further (saw front back g e d) = saw (m ∷ front) back g (ap (λ xs. m ∷ xs) e) d

      by : Has (later ++ before) ⊎ IsGone later before i one → Has (m ∷ (later ++ before)) ⊎ IsGone (m ∷ later) before i one
      by (inl g) = now (one_on m (later ++ before) g)
      by (inr g) = inr (further g)

-- ---- a slot that has an ORB is open
open_by : (state : SlotState) (one : Orb) → (state ≡ used one) ⊎ (state ≡ resting) → is_used state ≡ true
open_by state one (inl e) = ap is_used e
open_by state one (inr e) = ap is_used e

pub slot_opened : (past : List Moment) (i slot : ℕ) (one : Orb) → HasSlot past i slot one → slot_is_open past i slot ≡ true
slot_opened past i slot one has = open_by (slice_index_or (slots past i) slot vacant) one has.held

-- ---- it begins with the append

module _ (past : List Moment) (i n k : ℕ) (cdb : List ℕ) (buffer : NoteBuffer) where
  abbrev place : ℕ
  place = lowest_vacant (slots past i)

  abbrev appended : List Moment
  appended = said (notes.Append i n k cdb buffer) ∷ past

  there : prepared_in appended i place ≡ Some (orb n k)
  there =
      ap (λ b. cond b (cond (nat_eq place place) (Some (orb n k)) (prepared_in past i place)) (prepared_in past i place)) (itself i)
      ∙ ap (λ b. cond b (Some (orb n k)) (prepared_in past i place)) (itself place)

  said_now : Has i place (orb n k) appended ⊎ Gone i place (orb n k) (said (notes.Append i n k cdb buffer)) past → HasSlot appended i place (orb n k) ⊎ (is_over appended i (orb n k) ≡ true)
  said_now (inl g) = inl g
  said_now (inr (is_over_now o)) = inr o
  said_now (inr (sees_now generation e d)) = absurd (let no : said (notes.Append i n k cdb buffer) ≡ said (notes.Seen (suc i) generation) = e in cc)

  begins : place < length (slots past i) → HasSlot appended i place (orb n k) ⊎ (is_over appended i (orb n k) ≡ true)
  begins b =
      said_now
      (then_freed i place (orb n k) (said (notes.Append i n k cdb buffer)) past there (slice_set (slots past i) place (used (orb n k))) (inl (get_or-set_same (slots past i) place (used (orb n k)) vacant b))
      (ap (λ x. map (freed appended i) (cond x (slice_set (slots past i) place (used (orb n k))) (slots past i))) (itself i)))

pub slots_stay_law : SlotsStayLaw
slots_stay_law = record { begins = begins; stays = λ later before i slot one h. has_on i slot one later before h }
