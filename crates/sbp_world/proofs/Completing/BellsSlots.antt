-- Of the ORBs of an initiator that were prepared in one slot the last one is of no earlier list, and of the same list no earlier one.
use Rattle.sbp_world.proofs.Words.Std.{arith, ◌≡◌, ◌∙◌, ◌⊎◌, inl, inr, refl, sym, ap, subst, ◌<◌, ◌≤◌, ◌==◌, ℕ, suc, nat_eq, nat_tests, Bool, true, false, cond, false≢true, List, [], ◌∷◌, Option, Some}
use Rattle.sbp_world.proofs.Words.Wire.{Moment, said}
use Rattle.sbp_world.proofs.Words.Laws.{Orb, appends, lists, lowest_vacant, orb, prepared_in, slot_at, slots}
use Rattle.sbp_journal.specs.declared.note.Note.TheVariants as notes
use Rattle.sbp_journal.specs.declared.note.NoteBuffer.{NoteBuffer}
use Rattle.sbp_laws.specs.OrderLaw.{IsNextAppend}
use Rattle.sbp_world.proofs.Lists.Passing.{PassLaw}

-- an ORB that stands in a slot is no earlier one than this
pub record IsBehind (found : Option Orb) (n k : ℕ) : Type 0 where
  pub one : Orb
  pub is : found ≡ Some one
  pub late : (n < one.list) ⊎ ((n ≡ one.list) × (k ≤ one.number))

-- and the list of this was begun
pub record Stays (past : List Moment) (i n k : ℕ) : Type 0 where
  pub begun : n < lists past i
  pub behind : IsBehind (prepared_in past i (slot_at past i n k)) n k

module _ (wild : ℕ → Bool) (i n k : ℕ) where
  -- one more is appended: list m, number l, where so many lists were begun, in a slot
  module _ (m l count low : ℕ) (list_is : cond (l == 0) m (suc m) ≡ count) where
    this_list : (b : Bool) → (l == 0) ≡ b → n ≡ m → cond b m (suc m) ≡ count → n < cond b (suc count) count
    this_list true e f g = omega (arith, f, g)
    this_list false e f g = omega (arith, f, g)

    older : (b : Bool) → (l == 0) ≡ b → n < count → n < cond b (suc count) count
    older true e f = omega (arith, f)
    older false e f = f

    other_list : (b : Bool) → (n ≡ m → ⊥) → n < count → cond b m (suc m) ≡ count → n < m
    other_list true apart f g = omega (arith, f, g)
    other_list false apart f g = by (nat_eq n m) refl
      where
        by : (c : Bool) → nat_eq n m ≡ c → n < m
        by true e = absurd (apart (grind (arith, nat_tests, e)))
        by false e = grind (arith, nat_tests, e, f, g)

    -- the slot has the new one, or the one from before
    in_slot : (c : Bool) (old : Option Orb) → (n < m) ⊎ ((n ≡ m) × (k ≤ l)) → IsBehind old n k → IsBehind (cond c (Some (orb m l)) old) n k
    in_slot true old new h = record { one = orb m l; is = refl; late = new }
    in_slot false old new h = h

  record Now (lists_now : ℕ) (found : Option Orb) : Type 0 where
    begun : n < lists_now
    behind : IsBehind found n k

  module _ (past : List Moment) (j m l : ℕ) (cdb : List ℕ) (buffer : NoteBuffer) (next : IsNextAppend past j m l) (old : k < appends past i n → Stays past i n k) where
    abbrev count : ℕ
    count = lists past j

    abbrev low : ℕ
    low = lowest_vacant (slots past j)

    abbrev found : ℕ → Option Orb
    found s = cond (nat_eq s low) (Some (orb m l)) (prepared_in past i s)

    by_number : i ≡ j → n ≡ m → (z : Bool) → nat_eq k l ≡ z → k < suc (appends past j m) → Now (cond (l == 0) (suc count) count) (found (cond z low (slot_at past i n k)))
    by_number same_i same_n true g b =
        let same_k : k ≡ l = grind (arith, nat_tests) in
        let here : nat_eq low low ≡ true = grind (arith, nat_tests) in
        record {
          begun = this_list m l count low next.list (l == 0) refl same_n next.list;
          behind = subst (λ c. IsBehind (cond c (Some (orb m l)) (prepared_in past i low)) n k) (sym here) (record { one = orb m l; is = refl; late = inr (same_n, omega (arith, same_k)) });
        }
    by_number same_i same_n false g b =
        let at : l ≡ appends past j m = next.number in
        let same_at : appends past j m ≡ appends past i n = ap (λ a. appends past a m) (sym same_i) ∙ ap (λ a. appends past i a) (sym same_n) in
        let below : k < l = grind (arith, nat_tests, g, b, at) in
        let h = old (omega (arith, below, at, same_at)) in
        record {
          begun = this_list m l count low next.list (l == 0) refl same_n next.list;
          behind = in_slot m l count low next.list (nat_eq (slot_at past i n k) low) (prepared_in past i (slot_at past i n k)) (inr (same_n, omega (arith, below))) h.behind;
        }

    by_list : i ≡ j → (y : Bool) → nat_eq n m ≡ y → k < cond y (suc (appends past j m)) (appends past i n) → Now (cond (l == 0) (suc count) count) (found (cond y (cond (nat_eq k l) low (slot_at past i n k)) (slot_at past i n k)))
    by_list same_i true f b = by_number same_i (grind (arith, nat_tests)) (nat_eq k l) refl b
    by_list same_i false f b =
        let h = old b in
        let before : n < count = subst (λ a. n < lists past a) same_i h.begun in
        let apart : n ≡ m → ⊥ = λ e. (let z : nat_eq n m ≡ true = grind (arith, nat_tests, e) in false≢true (sym f ∙ z)) in
        record {
          begun = older m l count low next.list (l == 0) refl before;
          behind = in_slot m l count low next.list (nat_eq (slot_at past i n k) low) (prepared_in past i (slot_at past i n k)) (inl (other_list m l count low next.list (l == 0) apart before next.list)) h.behind;
        }

    -- by whether it is of this initiator
    abbrev at_slot : Bool → ℕ
    at_slot x = cond x (cond (nat_eq n m) (cond (nat_eq k l) low (slot_at past i n k)) (slot_at past i n k)) (slot_at past i n k)

    made : (x : Bool) → nat_eq i j ≡ x → Now (cond x (cond (l == 0) (suc count) count) (lists past i)) (cond x (found (at_slot x)) (prepared_in past i (at_slot x))) → Stays (said (notes.Append j m l cdb buffer) ∷ past) i n k
    made x e h = record {
      begun = subst (λ c. n < cond c (cond (l == 0) (suc count) count) (lists past i)) (sym e) h.begun;
      behind = subst (λ c. IsBehind (cond c (found (at_slot c)) (prepared_in past i (at_slot c))) n k) (sym e) h.behind;
    }

    appended : (x : Bool) → nat_eq i j ≡ x → k < cond x (cond (nat_eq n m) (suc (appends past j m)) (appends past i n)) (appends past i n) → Stays (said (notes.Append j m l cdb buffer) ∷ past) i n k
    appended true e b = let h = by_list (grind (arith, nat_tests)) (nat_eq n m) refl b in made true e (record { begun = h.begun; behind = h.behind })
    appended false e b = let h = old b in made false e (record { begun = h.begun; behind = h.behind })

  pub at_behind : (past : List Moment) → PassLaw wild past → k < appends past i n → Stays past i n k
  at_behind [] law b = absurd (omega (arith, b))
  at_behind (said (notes.Append j m l cdb buffer) ∷ past) law b = appended past j m l cdb buffer law.0.next (λ c. at_behind past law.1 c) (nat_eq i j) refl b
  at_behind (_ ∷ past) law b = let h = at_behind past law.1 b in record { begun = h.begun; behind = h.behind }
