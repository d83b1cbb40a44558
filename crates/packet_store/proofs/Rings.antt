-- What a ring has under each serial, after a change of one slot or of the older packets.
use Rattle.std.proofs.Common.{◌≡◌, ◌∙◌, refl, sym, ap, ℕ, zero, suc, ◌<◌, ◌≤◌, Bool, true, false, List, [], ◌∷◌, ◌++◌, length, None, Some, cond, arith}
use Rattle.std.specs.Prelude.{◌≢◌, ◌==◌, Option, slice_set, slice_index_or}
use Rattle.std.proofs.lemmas.List.{get_or-set_same, get_or-set_other, get_or_read}
use Rattle.packet_store.specs.declared.ring.Place.{Place}
use Rattle.packet_store.specs.Rings.{slot_of, slot, is_of, pick, older, Placed, Apart}
use Rattle.packet_store.proofs.Same.{differs, equal_of, unequal_of}

-- a serial of another slot is another serial
other_serial : (s q at : ℕ) → slot_of s ≡ at → slot_of q ≢ at → (s == q) ≡ false
other_serial s q at e ne = differs s q (λ eq. ne (ap slot_of (sym eq) ∙ e))

in_range : (slots : List (Option Place)) (at : ℕ) (k : Place) → slot slots at ≡ Some k → at < length slots
in_range [] at k e = cc e
in_range (x ∷ slots) zero k e = omega arith
in_range (x ∷ slots) (suc at) k e = let r = in_range slots at k e in omega arith

-- what the older ones have once one more is among them, or one is not any more
pub record Changes (before after : List (ℕ × Place)) (s : ℕ) (w : Option Place) : Type 0 where
  pub updates : (q : ℕ) → older after q ≡ cond (s == q) w (older before q)

changed : (before after : List (ℕ × Place)) (s q : ℕ) (w : Option Place) → Changes before after s w → older after q ≡ cond (s == q) w (older before q)
changed before after s q w c = c.updates q

unchanged : (before after : List (ℕ × Place)) (s q : ℕ) (w : Option Place) → Changes before after s w → (s == q) ≡ false → older after q ≡ older before q
unchanged before after s q w c e = changed before after s q w c ∙ ap (λ b. cond b w (older before q)) e

-- ---- a packet in a free slot
put_at : (slots : List (Option Place)) (at q : ℕ) (k : Place) (o : Option Place) (b : Bool) → (slot_of q == at) ≡ b → slot_of k.serial ≡ at → at < length slots → slot slots at ≡ None → pick q (slot (slice_set slots at (Some k)) (slot_of q)) o ≡ cond (k.serial == q) (Some k) (pick q (slot slots (slot_of q)) o)
put_at slots at q k o true e h l none =
    let eq = equal_of (slot_of q) at e in
    rw (eq, get_or-set_same slots at (Some k) None l, none) refl
put_at slots at q k o false e h l none =
    let ne = unequal_of (slot_of q) at e in
    rw (get_or-set_other slots at (slot_of q) (Some k) None ne, other_serial k.serial q at h ne) refl

pub put_there : (slots : List (Option Place)) (at q : ℕ) (k : Place) (o : Option Place) → slot_of k.serial ≡ at → at < length slots → slot slots at ≡ None → pick q (slot (slice_set slots at (Some k)) (slot_of q)) o ≡ cond (k.serial == q) (Some k) (pick q (slot slots (slot_of q)) o)
put_there slots at q k o h l none = put_at slots at q k o (slot_of q == at) refl h l none

-- ---- a packet moved to the older ones
spilled_at : (slots : List (Option Place)) (before after : List (ℕ × Place)) (at q : ℕ) (k : Place) (b : Bool) → (slot_of q == at) ≡ b → slot_of k.serial ≡ at → slot slots at ≡ Some k → Changes before after k.serial (Some k) → pick q (slot (slice_set slots at None) (slot_of q)) (older after q) ≡ pick q (slot slots (slot_of q)) (older before q)
spilled_at slots before after at q k true e h here c =
    let eq = equal_of (slot_of q) at e in
    rw (eq, get_or-set_same slots at None None (in_range slots at k here), here) (changed before after k.serial q (Some k) c)
spilled_at slots before after at q k false e h here c =
    let ne = unequal_of (slot_of q) at e in
    rw (get_or-set_other slots at (slot_of q) None None ne) (ap (pick q (slot slots (slot_of q))) (unchanged before after k.serial q (Some k) c (other_serial k.serial q at h ne)))

pub spilled : (slots : List (Option Place)) (before after : List (ℕ × Place)) (at q : ℕ) (k : Place) → Placed slots → slot slots at ≡ Some k → Changes before after k.serial (Some k) → pick q (slot (slice_set slots at None) (slot_of q)) (older after q) ≡ pick q (slot slots (slot_of q)) (older before q)
spilled slots before after at q k p here c = spilled_at slots before after at q k (slot_of q == at) refl (p at k here) here c

pub pick_of : (s : ℕ) (x o : Option Place) → is_of s x ≡ true → x ≡ pick s x o
pick_of s None o t = cc t
pick_of s (Some k) o t = rw t refl

pub pick_other : (s : ℕ) (x o : Option Place) → is_of s x ≡ false → pick s x o ≡ o
pick_other s None o e = refl
pick_other s (Some k) o e = rw e refl

pub beyond : (slots : List (Option Place)) (at : ℕ) → length slots ≤ at → slot slots at ≡ None
beyond [] at l = refl
beyond (x ∷ slots) zero l = absurd (omega (arith, l))
beyond (x ∷ slots) (suc at) l = beyond slots at (omega (arith, l))

-- ---- one more slot without a packet
pub slot_more : (slots : List (Option Place)) (at : ℕ) → slot (slots ++ None ∷ []) at ≡ slot slots at
slot_more [] zero = refl
slot_more [] (suc at) = refl
slot_more (x ∷ slots) zero = refl
slot_more (x ∷ slots) (suc at) = slot_more slots at

pub placed_more : (slots : List (Option Place)) → Placed slots → Placed (slots ++ None ∷ [])
placed_more slots p = λ at k h. p at k (sym (slot_more slots at) ∙ h)

-- ---- what a slot has
pub of_range : (s at : ℕ) (slots : List (Option Place)) → is_of s (slot slots at) ≡ true → at < length slots
of_range s at [] e = cc e
of_range s zero (x ∷ slots) e = omega arith
of_range s (suc at) (x ∷ slots) e = let r = of_range s at slots e in omega arith

pub read : (slots : List (Option Place)) (at : ℕ) (x : Option Place) → at < length slots → x ≡ slice_index_or slots at x → x ≡ slot slots at
read slots at x l e = get_or_read slots at x l e None

-- ---- a serial has one place
apart_more : (slots : List (Option Place)) (entries : List (ℕ × Place)) → Apart slots entries → Apart (slots ++ None ∷ []) entries
apart_more slots entries a = λ q t. a q (ap (is_of q) (sym (slot_more slots (slot_of q))) ∙ t)

pub ring_more : (slots : List (Option Place)) (entries : List (ℕ × Place)) → Placed slots → Apart slots entries → Placed (slots ++ None ∷ []) × Apart (slots ++ None ∷ []) entries
ring_more slots entries p a = (placed_more slots p, apart_more slots entries a)
