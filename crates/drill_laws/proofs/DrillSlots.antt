-- How many slots are not free.
use Rattle.std.proofs.Common.{◌≡◌, refl, ℕ, zero, suc, ◌+◌, ◌≤◌, ◌<◌, ◌==◌, ◌&&◌, not, Bool, true, false, cond, List, [], ◌∷◌, map, slice_set, arith}
use Rattle.std.proofs.lemmas.Bool.Decides.{nat_tests}
use Rattle.orb_layout.specs.StatusBlocks.{row_of}
use Rattle.sbp_journal.specs.Run.{Moment, said}
use Rattle.sbp_journal.specs.Wire.{terms}
use Rattle.sbp_journal.specs.declared.note.Note.{Note}
use Rattle.sbp_journal.specs.declared.note.Note.TheVariants as notes
use Rattle.sbp_laws.specs.Lists.{SlotState, freed, is_orb, is_over, is_vacant, lowest_vacant, new_slots, orb, put_to_rest, resting, rests_at, slots, slots_by, used, vacant}
use Rattle.drill_laws.specs.DrillSlots.{SlotsLaw, prepared_by, taken_slots}

-- ---- what frees slots, or lets them rest
abbrev weight : SlotState → ℕ
weight slot = cond (is_vacant slot) 0 1

map_light : (f : SlotState → SlotState) → ((slot : SlotState) → weight (f slot) ≤ weight slot) → (xs : List SlotState) → taken_slots (map f xs) ≤ taken_slots xs
map_light f light [] = omega arith
map_light f light (x ∷ xs) = (let one = light x in let rest = map_light f light xs in omega (arith, one, rest))

freed_light : (past : List Moment) (i : ℕ) (slot : SlotState) → weight (freed past i slot) ≤ weight slot
freed_light past i vacant = omega arith
freed_light past i resting = omega arith
freed_light past i (used one) = by (is_over past i one)
  where
    by : (b : Bool) → weight (cond b vacant (used one)) ≤ 1
    by true = omega arith
    by false = omega arith

rests_light : (n k : ℕ) (slot : SlotState) → weight (rests_at n k slot) ≤ weight slot
rests_light n k vacant = omega arith
rests_light n k resting = omega arith
rests_light n k (used one) = by (is_orb one n k)
  where
    by : (b : Bool) → weight (cond b resting (used one)) ≤ 1
    by true = omega arith
    by false = omega arith

put_light : (slot : SlotState) → weight (put_to_rest slot) ≤ weight slot
put_light vacant = omega arith
put_light resting = omega arith
put_light (used one) = omega arith

-- ---- what takes one
light_one : (slot : SlotState) → weight slot ≤ 1
light_one vacant = omega arith
light_one resting = omega arith
light_one (used one) = omega arith

set_one : (xs : List SlotState) (n : ℕ) (slot : SlotState) → taken_slots (slice_set xs n slot) ≤ taken_slots xs + 1
set_one [] n slot = omega arith
set_one (x ∷ xs) zero slot = (let one = light_one slot in omega (arith, one))
set_one (x ∷ xs) (suc n) slot = (let rest = set_one xs n slot in omega (arith, rest))

by_note : (note : Note) (past : List Moment) (i : ℕ) (xs : List SlotState) → taken_slots (slots_by note past i xs) ≤ taken_slots xs + prepared_by i note
by_note (notes.Append j n k cdb buffer) past i xs = by (j == i)
  where
    by : (b : Bool) → taken_slots (cond b (slice_set xs (lowest_vacant xs) (used (orb n k))) xs) ≤ taken_slots xs + cond b 1 0
    by true = set_one xs (lowest_vacant xs) (used (orb n k))
    by false = omega arith
by_note (notes.Taken j n k status answer) past i xs = by ((j == i) && not ((row_of status).resp == 0))
  where
    by : (b : Bool) → taken_slots (cond b (map (rests_at n k) xs) xs) ≤ taken_slots xs + 0
    by true = (let light = map_light (rests_at n k) (rests_light n k) xs in omega (arith, light))
    by false = omega arith
by_note (notes.Drop j n) past i xs = by (j == i)
  where
    by : (b : Bool) → taken_slots (cond b (map put_to_rest xs) xs) ≤ taken_slots xs + 0
    by true = (let light = map_light put_to_rest put_light xs in omega (arith, light))
    by false = omega arith
by_note (notes.Seen node generation) past i xs = by ((node == suc i) && not (generation == (terms past).generation node))
  where
    none : taken_slots new_slots ≡ 0
    none = refl

    by : (b : Bool) → taken_slots (cond b new_slots xs) ≤ taken_slots xs + 0
    by true = omega (arith, none)
    by false = omega arith
by_note _ past i xs = omega arith

-- ---- a free one
lowest_below : (xs : List SlotState) → lowest_vacant xs ≤ taken_slots xs
lowest_below [] = omega arith
lowest_below (vacant ∷ xs) = omega arith
lowest_below (resting ∷ xs) = (let rest = lowest_below xs in omega (arith, rest))
lowest_below (used one ∷ xs) = (let rest = lowest_below xs in omega (arith, rest))

has_room : (xs : List SlotState) → taken_slots xs < 32 → (lowest_vacant xs == 32) ≡ false
has_room xs few = by (lowest_vacant xs == 32) refl
  where
    by : (b : Bool) → (lowest_vacant xs == 32) ≡ b → b ≡ false
    by true e = absurd (let all : lowest_vacant xs ≡ 32 = grind (arith, nat_tests) in let low = lowest_below xs in omega (arith, all, low, few))
    by false e = refl

pub slots_law : SlotsLaw
slots_law = record {
  rise = λ past note i. (let kept = by_note note past i (slots past i) in let light = map_light (freed (said note ∷ past) i) (freed_light (said note ∷ past) i) (slots_by note past i (slots past i)) in omega (arith, kept, light));
  room = λ past i. has_room (slots past i);
}
