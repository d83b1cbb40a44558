-- What the slots of an initiator hold.
use Rattle.std.proofs.Common.{◌≡◌, ◌∙◌, refl, ap, ℕ, zero, suc, ◌+◌, ◌≤◌, ◌==◌, ◌&&◌, not, nat_eq, Bool, true, false, cond, List, [], ◌∷◌, map, slice_set, arith}
use Rattle.std.specs.List.{AllByRecursion}
use Rattle.std.proofs.lemmas.Bool.Decides.{nat_tests}
use Rattle.orb_layout.specs.StatusBlocks.{row_of}
use Rattle.sbp_journal.specs.Run.{Moment, asked, said}
use Rattle.sbp_journal.specs.Wire.{terms}
use Rattle.sbp_journal.specs.declared.event.Event.{Event}
use Rattle.sbp_journal.specs.declared.note.Note.{Note}
use Rattle.sbp_journal.specs.declared.note.Note.TheVariants as notes
use Rattle.sbp_laws.specs.Lawful.{nobody}
use Rattle.sbp_laws.specs.Lists.{SlotState, freed, is_orb, is_over, lowest_vacant, new_slots, orb, put_to_rest, resting, rests_at, slots, slots_by, used, vacant}
use Rattle.sbp_laws.specs.OrderLaw.{OrderLaw}
use Rattle.sbp_laws.specs.Terms.{appends}
use Rattle.drill_laws.specs.DrillApart.{IsKept, IsOnly, SlotsApart, held_in, holds}
use Rattle.drill_laws.specs.DrillSlots.{taken_slots}

-- ---- none is over
freed_kept : (past : List Moment) (i : ℕ) (slot : SlotState) → IsKept past i (freed past i slot)
freed_kept past i vacant = tt
freed_kept past i resting = tt
freed_kept past i (used one) = by (is_over past i one) refl
  where
    by : (b : Bool) → is_over past i one ≡ b → IsKept past i (cond b vacant (used one))
    by true e = tt
    by false e = e

all_freed : (past : List Moment) (i : ℕ) (xs : List SlotState) → AllByRecursion (IsKept past i) (map (freed past i) xs)
all_freed past i [] = tt
all_freed past i (x ∷ xs) = (freed_kept past i x, all_freed past i xs)

asked_kept : (past : List Moment) (i line : ℕ) (event : Event) (xs : List SlotState) → AllByRecursion (IsKept past i) xs → AllByRecursion (IsKept (asked line event ∷ past) i) xs
asked_kept past i line event [] all = tt
asked_kept past i line event (vacant ∷ xs) all = (tt, asked_kept past i line event xs all.1)
asked_kept past i line event (resting ∷ xs) all = (tt, asked_kept past i line event xs all.1)
asked_kept past i line event (used one ∷ xs) all = (all.0, asked_kept past i line event xs all.1)

all_kept : (past : List Moment) (i : ℕ) → AllByRecursion (IsKept past i) (slots past i)
all_kept [] i = (tt, (tt, (tt, (tt, (tt, (tt, (tt, (tt, (tt, (tt, (tt, (tt, (tt, (tt, (tt, (tt, (tt, (tt, (tt, (tt, (tt, (tt, (tt, (tt, (tt, (tt, (tt, (tt, (tt, (tt, (tt, (tt, tt))))))))))))))))))))))))))))))))
all_kept (asked line event ∷ past) i = asked_kept past i line event (slots past i) (all_kept past i)
all_kept (said note ∷ past) i = all_freed (said note ∷ past) i (slots_by note past i (slots past i))

-- ---- each once
module _ (n k : ℕ) where
  map_light : (f : SlotState → SlotState) → ((slot : SlotState) → holds n k (f slot) ≤ holds n k slot) → (xs : List SlotState) → held_in n k (map f xs) ≤ held_in n k xs
  map_light f light [] = omega arith
  map_light f light (x ∷ xs) = (let one = light x in let rest = map_light f light xs in omega (arith, one, rest))

  freed_light : (past : List Moment) (i : ℕ) (slot : SlotState) → holds n k (freed past i slot) ≤ holds n k slot
  freed_light past i vacant = omega arith
  freed_light past i resting = omega arith
  freed_light past i (used one) = by (is_over past i one)
    where
      by : (b : Bool) → holds n k (cond b vacant (used one)) ≤ holds n k (used one)
      by true = omega arith
      by false = omega arith

  rests_light : (m l : ℕ) (slot : SlotState) → holds n k (rests_at m l slot) ≤ holds n k slot
  rests_light m l vacant = omega arith
  rests_light m l resting = omega arith
  rests_light m l (used one) = by (is_orb one m l)
    where
      by : (b : Bool) → holds n k (cond b resting (used one)) ≤ holds n k (used one)
      by true = omega arith
      by false = omega arith

  put_light : (slot : SlotState) → holds n k (put_to_rest slot) ≤ holds n k slot
  put_light vacant = omega arith
  put_light resting = omega arith
  put_light (used one) = omega arith

  set_one : (xs : List SlotState) (at : ℕ) (slot : SlotState) → held_in n k (slice_set xs at slot) ≤ held_in n k xs + holds n k slot
  set_one [] at slot = omega arith
  set_one (x ∷ xs) zero slot = omega arith
  set_one (x ∷ xs) (suc at) slot = (let rest = set_one xs at slot in omega (arith, rest))

  abbrev added : ℕ → Note → ℕ
  added i (notes.Append j m l cdb buffer) = cond (nat_eq j i) (holds n k (used (orb m l))) 0
  added i note = 0

  by_note : (note : Note) (past : List Moment) (i : ℕ) (xs : List SlotState) → held_in n k (slots_by note past i xs) ≤ held_in n k xs + added i note
  by_note (notes.Append j m l cdb buffer) past i xs = by (j == i)
    where
      by : (b : Bool) → held_in n k (cond b (slice_set xs (lowest_vacant xs) (used (orb m l))) xs) ≤ held_in n k xs + cond b (holds n k (used (orb m l))) 0
      by true = set_one xs (lowest_vacant xs) (used (orb m l))
      by false = omega arith
  by_note (notes.Taken j m l status answer) past i xs = by ((j == i) && not ((row_of status).resp == 0))
    where
      by : (b : Bool) → held_in n k (cond b (map (rests_at m l) xs) xs) ≤ held_in n k xs + 0
      by true = (let light = map_light (rests_at m l) (rests_light m l) xs in omega (arith, light))
      by false = omega arith
  by_note (notes.Drop j m) past i xs = by (j == i)
    where
      by : (b : Bool) → held_in n k (cond b (map put_to_rest xs) xs) ≤ held_in n k xs + 0
      by true = (let light = map_light put_to_rest put_light xs in omega (arith, light))
      by false = omega arith
  by_note (notes.Seen node generation) past i xs = by ((node == suc i) && not (generation == (terms past).generation node))
    where
      none : held_in n k new_slots ≡ 0
      none = refl

      by : (b : Bool) → held_in n k (cond b new_slots xs) ≤ held_in n k xs + 0
      by true = omega (arith, none)
      by false = omega arith
  by_note _ past i xs = omega arith

  record Once (past : List Moment) (i : ℕ) : Type 0 where
    most : held_in n k (slots past i) ≤ 1
    later : appends past i n ≤ k → held_in n k (slots past i) ≡ 0

  risen : (note : Note) (past : List Moment) (i : ℕ) → held_in n k (slots (said note ∷ past) i) ≤ held_in n k (slots past i) + added i note
  risen note past i = (let kept = by_note note past i (slots past i) in let light = map_light (freed (said note ∷ past) i) (freed_light (said note ∷ past) i) (slots_by note past i (slots past i)) in omega (arith, kept, light))

  same_once : (note : Note) (past : List Moment) (i : ℕ) → added i note ≡ 0 → appends past i n ≤ appends (said note ∷ past) i n → Once past i → Once (said note ∷ past) i
  same_once note past i none grows o = record {
    most = (let r = risen note past i in let m = o.most in omega (arith, r, m, none));
    later = λ below. (let r = risen note past i in let z = o.later (omega (arith, below, grows)) in omega (arith, r, z, none));
  }

  append_once : (past : List Moment) (j m l : ℕ) (note : Note) (i : ℕ) → l ≡ appends past j m → added i note ≡ cond (nat_eq j i) (cond (nat_eq m n && nat_eq l k) 1 0) 0 → appends (said note ∷ past) i n ≡ cond (nat_eq i j) (cond (nat_eq n m) (suc (appends past j m)) (appends past i n)) (appends past i n) → Once past i → Once (said note ∷ past) i
  append_once past j m l note i next adds counts o = by (nat_eq j i) refl (nat_eq m n) refl (nat_eq l k) refl (nat_eq i j) refl (nat_eq n m) refl adds counts
    where
      by : (b : Bool) → nat_eq j i ≡ b → (c : Bool) → nat_eq m n ≡ c → (d : Bool) → nat_eq l k ≡ d → (e : Bool) → nat_eq i j ≡ e → (f : Bool) → nat_eq n m ≡ f
          → added i note ≡ cond b (cond (c && d) 1 0) 0 → appends (said note ∷ past) i n ≡ cond e (cond f (suc (appends past j m)) (appends past i n)) (appends past i n) → Once (said note ∷ past) i
      by true p true q true r true s true t adds counts =
          let at : j ≡ i = grind (arith, nat_tests) in
          let of : m ≡ n = grind (arith, nat_tests) in
          let same : l ≡ k = grind (arith, nat_tests) in
          let there : appends past j m ≡ appends past i n = ap (λ x. appends past x m) at ∙ ap (appends past i) of in
          let none = o.later (omega (arith, same, next, there)) in
          record { most = (let u = risen note past i in omega (arith, u, none, adds)); later = λ below. absurd (omega (arith, below, counts, next, same)) }
      by true p true q true r true s false t adds counts = absurd (grind (arith, nat_tests))
      by true p true q true r false s f t adds counts = absurd (grind (arith, nat_tests))
      by true p true q false r true s true t adds counts =
          let at : j ≡ i = grind (arith, nat_tests) in
          let of : m ≡ n = grind (arith, nat_tests) in
          let there : appends past j m ≡ appends past i n = ap (λ x. appends past x m) at ∙ ap (appends past i) of in
          same_once note past i adds (omega (arith, counts, there)) o
      by true p true q false r e s false t adds counts = absurd (grind (arith, nat_tests))
      by true p true q false r false s f t adds counts = absurd (grind (arith, nat_tests))
      by true p false q d r e s true t adds counts = absurd (grind (arith, nat_tests))
      by true p false q d r true s false t adds counts = same_once note past i adds (omega (arith, counts)) o
      by true p false q d r false s false t adds counts = same_once note past i adds (omega (arith, counts)) o
      by false p c q d r true s f t adds counts = absurd (grind (arith, nat_tests))
      by false p c q d r false s f t adds counts = same_once note past i adds (omega (arith, counts)) o

  all_once : (past : List Moment) → OrderLaw nobody past → (i : ℕ) → Once past i
  all_once [] order i = record { most = (let none : held_in n k new_slots ≡ 0 = refl in omega (arith, none)); later = λ below. refl }
  all_once (said (notes.Append j m l cdb buffer) ∷ past) order i = append_once past j m l (notes.Append j m l cdb buffer) i order.0.number refl refl (all_once past order.1 i)
  all_once (asked line event ∷ past) order i = let o = all_once past order.1 i in record { most = o.most; later = o.later }
  all_once (said note ∷ past) order i = same_once note past i refl (omega arith) (all_once past order.1 i)

only_one : (n k : ℕ) (xs : List SlotState) → AllByRecursion (IsOnly n k) xs → taken_slots xs ≤ held_in n k xs
only_one n k [] all = omega arith
only_one n k (vacant ∷ xs) all = (let rest = only_one n k xs all.1 in omega (arith, rest))
only_one n k (resting ∷ xs) all = absurd all.0
only_one n k (used one ∷ xs) all =
    let here : holds n k (used one) ≡ 1 = ap {B = ℕ} (λ b. cond b 1 0) all.0 in
    let rest = only_one n k xs all.1 in
    omega (arith, rest, here)

pub slots_apart : SlotsApart
slots_apart = record {
  kept = all_kept;
  once = λ past order i n k. (all_once n k past order i).most;
  few = λ past order i n k only. (let most = (all_once n k past order i).most in let taken = only_one n k (slots past i) only in omega (arith, most, taken));
}
