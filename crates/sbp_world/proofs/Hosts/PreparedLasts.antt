-- An ORB that is the one prepared last in its slot was so at each moment behind its append.
use Rattle.sbp_world.proofs.Words.Std.{arith, ◌≡◌, refl, sym, ◌∙◌, ap, ℕ, suc, ◌<◌, ◌≤◌, nat_eq, Bool, true, false, cond, List, [], ◌∷◌, ◌++◌, Some, None, nat_tests, same_Some}
use Rattle.sbp_world.proofs.Words.Wire.{Moment, asked, said, NoteBuffer}
use Rattle.sbp_world.proofs.Words.Laws.{list_in, lowest_vacant, number_in, orb, prepared_in, slot_at, slots, appends}
use Rattle.sbp_journal.specs.declared.note.Note.TheVariants as notes
use Rattle.sbp_world.proofs.Hosts.LastingTerms.{AllLast, IsLast, IsNumbered, from_there, one_of}

turned : (i j : ℕ) → nat_eq i j ≡ true → nat_eq j i ≡ true
turned i j e = grind (arith, nat_tests)

-- one that is appended later has a higher number
not_later : (k l a b : ℕ) → l ≡ a → a ≡ b → l ≡ k → k < b → ⊥
not_later k l a b e f g h = omega arith

module _ (i slot n k : ℕ) where
  abbrev IsIt : List Moment → Type 0
  IsIt past = prepared_in past i slot ≡ Some (orb n k)

  by_append : (past : List Moment) (j m l : ℕ) (b c : Bool) → nat_eq i j ≡ b → (nat_eq j i ≡ true → l ≡ appends past i m) → k < appends past i n → cond b (cond c (Some (orb m l)) (prepared_in past i slot)) (prepared_in past i slot) ≡ Some (orb n k) → IsIt past
  by_append past j m l true true e numbered below h =
      let list : m ≡ n = same_Some m n (ap list_in h) in
      let number : l ≡ k = same_Some l k (ap number_in h) in
      absurd (not_later k l (appends past i m) (appends past i n) (numbered (turned i j e)) (ap (λ x. appends past i x) list) number below)
  by_append past j m l true false e numbered below h = h
  by_append past j m l false c e numbered below h = h

  one_before : (m : Moment) (past : List Moment) → IsNumbered past m i → k < appends past i n → IsIt (m ∷ past) → IsIt past
  one_before (said (notes.Append j m l cdb buffer)) past numbered below h =
      by_append past j m l (nat_eq i j) (nat_eq slot (lowest_vacant (slots past j))) refl numbered below h
  one_before (said note) past numbered below h = h
  one_before (asked line event) past numbered below h = h

  pub prepared_then : (later before : List Moment) → AllLast (later ++ before) i → k < appends before i n → IsIt (later ++ before) → IsIt before
  prepared_then [] before all below h = h
  prepared_then (m ∷ later) before all below h =
      let f = from_there later before i all.1 in
      let on : appends before i n ≤ appends (later ++ before) i n = f.0.appended n in
      prepared_then later before all.1 below (one_before m (later ++ before) all.0.numbered (omega arith) h)

  -- ---- it was appended, in that slot

  pub record IsPlaced (past : List Moment) : Type 0 where
    pub place : slot_at past i n k ≡ slot
    pub below : k < appends past i n

  stays : (m : Moment) (past : List Moment) → IsLast past m i → IsPlaced past → IsPlaced (m ∷ past)
  stays m past h p =
      let below = p.below in
      let more : appends past i n ≤ appends (m ∷ past) i n = h.last.appended n in
      record { place = h.last.place n k p.below ∙ p.place; below = omega arith }

  -- as it is appended
  new_place : (past : List Moment) (j m l : ℕ) (cdb : List ℕ) (buffer : NoteBuffer) → nat_eq i j ≡ true → nat_eq slot (lowest_vacant (slots past j)) ≡ true → (nat_eq j i ≡ true → l ≡ appends past i m) → Some (orb m l) ≡ Some (orb n k) → IsPlaced (said (notes.Append j m l cdb buffer) ∷ past)
  new_place past j m l cdb buffer e f numbered h =
      let list : m ≡ n = same_Some m n (ap list_in h) in
      let number : l ≡ k = same_Some l k (ap number_in h) in
      let own = turned i j e in
      let one : appends (said (notes.Append j m l cdb buffer) ∷ past) i m ≡ suc (appends past i m) = one_of i j m l cdb buffer past own in
      let same_list : appends (said (notes.Append j m l cdb buffer) ∷ past) i m ≡ appends (said (notes.Append j m l cdb buffer) ∷ past) i n = ap (λ x. appends (said (notes.Append j m l cdb buffer) ∷ past) i x) list in
      let new = numbered own in
      let here : slot ≡ lowest_vacant (slots past j) = grind (arith, nat_tests) in
      let there = slot_at past i n k in
      let lowest = lowest_vacant (slots past j) in
      let a : nat_eq n m ≡ true = grind (arith, nat_tests) in
      let b : nat_eq k l ≡ true = grind (arith, nat_tests) in
      record {
        place = ap (λ x. cond x (cond (nat_eq n m) (cond (nat_eq k l) lowest there) there) there) e
            ∙ (ap (λ x. cond x (cond (nat_eq k l) lowest there) there) a
            ∙ (ap (λ x. cond x lowest there) b ∙ sym here));
        below = omega arith;
      }

  placed_by : (past : List Moment) (j m l : ℕ) (cdb : List ℕ) (buffer : NoteBuffer) → IsLast past (said (notes.Append j m l cdb buffer)) i → (IsIt past → IsPlaced past) → (b c : Bool) → nat_eq i j ≡ b → nat_eq slot (lowest_vacant (slots past j)) ≡ c → cond b (cond c (Some (orb m l)) (prepared_in past i slot)) (prepared_in past i slot) ≡ Some (orb n k) → IsPlaced (said (notes.Append j m l cdb buffer) ∷ past)
  placed_by past j m l cdb buffer last old true true e f h = new_place past j m l cdb buffer e f last.numbered h
  placed_by past j m l cdb buffer last old true false e f h = stays (said (notes.Append j m l cdb buffer)) past last (old h)
  placed_by past j m l cdb buffer last old false c e f h = stays (said (notes.Append j m l cdb buffer)) past last (old h)

  pub placed : (past : List Moment) → AllLast past i → IsIt past → IsPlaced past
  placed [] all h = absurd (none h)
    where
      none : None ≡ Some (orb n k) → ⊥
      none e = cc
  placed (said (notes.Append j m l cdb buffer) ∷ past) all h =
      placed_by past j m l cdb buffer all.0 (placed past all.1) (nat_eq i j) (nat_eq slot (lowest_vacant (slots past j))) refl refl h
  placed (said note ∷ past) all h = stays (said note) past all.0 (placed past all.1 h)
  placed (asked line event ∷ past) all h = stays (asked line event) past all.0 (placed past all.1 h)
