-- What a note changes of the lists that were cut.
use Rattle.sbp_world.proofs.Words.Std.{◌≡◌, ◌⊎◌, inl, inr, refl, ℕ, nat_eq, Bool, true, false, cond, List, ◌∷◌, ◌++◌, map, Option, Some, None, arith, nat_tests, upd2}
use Rattle.sbp_world.proofs.Words.Wire.{CutCause, Note, Moment, said}
use Rattle.sbp_world.proofs.Words.Laws.{is_cut}
use Rattle.sbp_journal.specs.declared.note.Note.TheVariants as notes

-- notes by which no list is cut that was not so before, whatever went before them
abbrev pub SameCuts : List Note → List Note → Type 0
SameCuts old new = (ms : List Moment) (i n : ℕ) → is_cut (map said new ++ ms) i n ≡ is_cut (map said old ++ ms) i n

cut_more : (old : ℕ → ℕ → Bool) (j m i n : ℕ) → upd2 old j m true i n ≡ true → (old i n ≡ true) ⊎ ((j ≡ i) × (m ≡ n))
cut_more old j m i n e = by (nat_eq i j) (nat_eq n m) refl refl e
  where
    by : (a b : Bool) → nat_eq i j ≡ a → nat_eq n m ≡ b → cond a (cond b true (old i n)) (old i n) ≡ true → (old i n ≡ true) ⊎ ((j ≡ i) × (m ≡ n))
    by true true x y f = inr (grind (arith, nat_tests), grind (arith, nat_tests))
    by true false x y f = inl f
    by false b x y f = inl f

-- a list that is cut behind a cut was so before, or is the one of the cut
pub cut_noted : (list : Option ℕ) (cause : CutCause) (ms : List Moment) (j i n : ℕ) → is_cut (said (notes.Cut j list cause) ∷ ms) i n ≡ true → (is_cut ms i n ≡ true) ⊎ ((j ≡ i) × (list ≡ Some n))
cut_noted None cause ms j i n e = inl e
cut_noted (Some m) cause ms j i n e = by (cut_more (is_cut ms) j m i n e)
  where
    by : (is_cut ms i n ≡ true) ⊎ ((j ≡ i) × (m ≡ n)) → (is_cut ms i n ≡ true) ⊎ ((j ≡ i) × (Some m ≡ Some n))
    by (inl f) = inl f
    by (inr (x, y)) = inr (x, cc)
