-- In a turn of others than the target a list stays the present one, where nothing drops it; and no list begins while it is the present one, nor in a
-- generation that the target has not seen.
use Rattle.sbp_world.proofs.Words.Std.{arith, ◌≡◌, ◌∙◌, refl, sym, ap, subst, ◌<◌, ◌==◌, ℕ, suc, nat_eq, Bool, true, false, cond, List, [], ◌∷◌, ◌++◌, map, Some, None, nat_tests, false≢true, none-some}
use Rattle.sbp_world.proofs.Words.Wire.{Moment, said, terms, Note}
use Rattle.sbp_world.proofs.Words.Laws.{present_list, lists, EachMoment}
use Rattle.sbp_world.proofs.Words.World.{MayAppend, MayStand, turn_of, AllOf, Ends, ends_by_reset, ends_by_sight, ends_by_state, ends_by_status, EndsAt, of_rest}
use Rattle.sbp_journal.specs.declared.note.Note.TheVariants as notes
use Rattle.sbp_world.proofs.Lists.Joins.{Begins}
use Rattle.sbp_world.proofs.Lists.OpenedMoments.{all_same, all_weaker, of_others, others_rest}

-- ---- why a list is dropped: a packet is got, or a generation is seen
pub data Because (past : List Moment) : Type 0 where
  by_got : (serial : ℕ) (earlier : List Moment) → past ≡ said (notes.Got serial) ∷ earlier → Because past
  by_seen : (node generation : ℕ) (earlier : List Moment) → past ≡ said (notes.Seen node generation) ∷ earlier → Because past

pub because : (past : List Moment) (i : ℕ) → Ends past i → Because past
because past i (ends_by_reset serial earlier got request value a r) = by_got serial earlier got
because past i (ends_by_state serial earlier got request a t) = by_got serial earlier got
because past i (ends_by_status serial earlier got d) = by_got serial earlier got
because past i (ends_by_sight generation earlier seen l) = by_seen (suc i) generation earlier seen

note_same : (a b : Note) (past earlier : List Moment) → said a ∷ past ≡ said b ∷ earlier → a ≡ b
note_same a b past earlier e = cc

not_because : (note : Note) (past : List Moment) → of_others note ≡ true → Because (said note ∷ past) → ⊥
not_because note past a (by_got serial earlier e) = false≢true (sym (ap of_others (note_same note (notes.Got serial) past earlier e)) ∙ a)
not_because note past a (by_seen node generation earlier e) = false≢true (sym (ap of_others (note_same note (notes.Seen node generation) past earlier e)) ∙ a)

module _ (i : ℕ) (m : Moment) (H : List Moment) where
  abbrev At : List Note → List Moment
  At rest = map said rest ++ m ∷ H

  -- the turn began with its first moment
  begun_here : (rest : List Note) → AllOf of_others rest → Ends (turn_of (At rest)) i → Ends (turn_of (m ∷ H)) i
  begun_here [] a e = e
  begun_here (notes.Taken j n k status answer ∷ rest) a e = begun_here rest a.1 e
  begun_here (notes.Told j ∷ rest) a e = begun_here rest a.1 e
  begun_here (notes.Rung j n k ∷ rest) a e = begun_here rest a.1 e
  begun_here (notes.Drop j n ∷ rest) a e = begun_here rest a.1 e
  begun_here (notes.Op j operation word ∷ rest) a e = begun_here rest a.1 e
  begun_here (notes.Stuck j ∷ rest) a e = begun_here rest a.1 e
  begun_here (note ∷ rest) a e = absurd (not_because note (At rest) a.0 (because (said note ∷ At rest) i e))

  -- ---- the present list
  module _ (n : ℕ) (never : Ends (turn_of (m ∷ H)) i → ⊥) (first : present_list (m ∷ H) i ≡ Some n) (same : lists (m ∷ H) i ≡ lists H i) where
    pub record Holds (past : List Moment) : Type 0 where
      pub present : present_list past i ≡ Some n
      pub begun : lists past i ≡ lists H i

    appends : (past : List Moment) (j l k : ℕ) → Holds past → ((j == i) ≡ true → MayAppend past i l k) → (b : Bool) → nat_eq i j ≡ b → (cond b (Some l) (present_list past i) ≡ Some n) × (cond b (cond (nat_eq k 0) (suc (lists past j)) (lists past j)) (lists past i) ≡ lists H i)
    appends past j l k h may false e = (h.present, h.begun)
    appends past j l k h may true e = by (nat_eq k 0) refl
      where
        own : i ≡ j
        own = grind (arith, nat_tests)

        a : MayAppend past i l k
        a = may (let z : nat_eq j i ≡ true = grind (arith, nat_tests) in z)

        by : (c : Bool) → nat_eq k 0 ≡ c → (Some l ≡ Some n) × (cond c (suc (lists past j)) (lists past j) ≡ lists H i)
        by true z = absurd (none-some n (sym (a.first (grind (arith, nat_tests))).0 ∙ h.present))
        by false z = (sym (a.later (grind (arith, nat_tests))) ∙ h.present, ap (lists past) (sym own) ∙ h.begun)

    drops : (past : List Moment) (j l : ℕ) → Holds past → ((j == i) ≡ true → ⊥) → (b : Bool) → nat_eq i j ≡ b → cond b None (present_list past i) ≡ Some n
    drops past j l h not_own false e = h.present
    drops past j l h not_own true e = absurd (not_own (let z : nat_eq j i ≡ true = grind (arith, nat_tests) in z))

    pub holds : (rest : List Note) → AllOf of_others rest → EachMoment (MayStand i) (At rest) → EachMoment (EndsAt i) (At rest) → Holds (At rest)
    holds [] a e d = record { present = first; begun = same }
    holds (notes.Append j l k cdb buffer ∷ rest) a e d = let x = appends (At rest) j l k (holds rest a.1 e.1 d.1) e.0 (nat_eq i j) refl in record { present = x.0; begun = x.1 }
    holds (notes.Drop j l ∷ rest) a e d =
        let h = holds rest a.1 e.1 d.1 in
        record { present = drops (At rest) j l h (λ own. never (begun_here rest a.1 (d.0 own))) (nat_eq i j) refl; begun = h.begun }
    holds (note ∷ rest) a e d = let h = holds rest a.1 e.1 d.1 in record { present = h.present; begun = h.begun }

  -- ---- while the initiator is ahead of the target no list begins
  module _ (same : lists (m ∷ H) i ≡ lists H i) (ahead : (terms (m ∷ H)).generation 0 < (terms (m ∷ H)).generation (suc i)) where
    ahead_on : (rest : List Note) → AllOf of_others rest → (terms (At rest)).generation 0 < (terms (At rest)).generation (suc i)
    ahead_on rest a =
        let s = (all_same rest (m ∷ H) (all_weaker of_others of_rest others_rest rest a)).generation in
        subst (λ (g : ℕ → ℕ). g 0 < g (suc i)) (sym s) ahead

    append_ahead : (past : List Moment) (j k : ℕ) → lists past i ≡ lists H i → ((j == i) ≡ true → ⊥) → (b : Bool) → nat_eq i j ≡ b → cond b (cond (nat_eq k 0) (suc (lists past j)) (lists past j)) (lists past i) ≡ lists H i
    append_ahead past j k h not_own false e = h
    append_ahead past j k h not_own true e = absurd (not_own (let z : nat_eq j i ≡ true = grind (arith, nat_tests) in z))

    pub none_begins : (rest : List Note) → AllOf of_others rest → Begins i (At rest) → lists (At rest) i ≡ lists H i
    none_begins [] a e = same
    none_begins (notes.Append j l k cdb buffer ∷ rest) a e =
        append_ahead (At rest) j k (none_begins rest a.1 e.1)
        (λ own. let x = e.0 own in let y = ahead_on rest a.1 in omega (arith, x, y)) (nat_eq i j) refl
    none_begins (note ∷ rest) a e = none_begins rest a.1 e.1
