-- What is counted of a journal, note by note.
use Rattle.std.proofs.Common.{◌≡◌, ◌∙◌, refl, sym, ap, ℕ, ◌+◌, Bool, true, false, cond, List, [], ◌∷◌, ◌++◌, map, length-append, arith}
use Rattle.std.specs.Int.{from_bool}
use Rattle.std.specs.List.{count_by}
use Rattle.std.proofs.lemmas.List.{map-append}
use Rattle.std.proofs.lemmas.List.Sums.{sum_by-append}
use Rattle.sbp_journal.specs.Text.{note_text}
use Rattle.sbp_journal.specs.declared.note.Note.{Note}
use Rattle.drill_text.specs.Sums.{behind_line, behind_lines}
use Rattle.drill_text.specs.Tally.{TallyState, is_append, is_good, is_taken, tally_of}

lines-behind : (sum : ℕ) (xs ys : List (List ℕ)) → behind_lines sum (xs ++ ys) ≡ behind_lines (behind_lines sum xs) ys
lines-behind sum [] ys = refl
lines-behind sum (x ∷ xs) ys = lines-behind (behind_line sum x) xs ys

pub lines-append : (sum : ℕ) (notes more : List Note) → behind_lines sum (map note_text (notes ++ more)) ≡ behind_lines (behind_lines sum (map note_text notes)) (map note_text more)
lines-append sum notes more = ap (behind_lines sum) (map-append note_text notes more) ∙ lines-behind sum (map note_text notes) (map note_text more)

abbrev pub one_if : Bool → ℕ
one_if b = cond b 1 0

count-more : (p : Note → Bool) (notes : List Note) (note : Note) → count_by p (notes ++ note ∷ []) ≡ count_by p notes + one_if (p note)
count-more p notes note =
    let one : 0 + one_if (p note) ≡ one_if (p note) = omega arith in
    sum_by-append (λ x. cond (p x) 1 0) notes (note ∷ []) ∙ ap (λ n. count_by p notes + n) one

-- one note more
pub tally-more : (notes : List Note) (note : Note) → tally_of (notes ++ note ∷ []) ≡ record {
  notes = (tally_of notes).notes + 1;
  appended = (tally_of notes).appended + one_if (is_append note);
  taken = (tally_of notes).taken + one_if (is_taken note);
  good = (tally_of notes).good + one_if (is_good note);
  sum = behind_line (tally_of notes).sum (note_text note);
}
unfolding tally_of
tally-more notes note =
    rw (length-append notes (note ∷ []), count-more is_append notes note, count-more is_taken notes note, count-more is_good notes note, lines-append 0 notes (note ∷ [])) refl

abbrev tally : ℕ → ℕ → ℕ → ℕ → ℕ → TallyState
tally a b c d e = record { notes = a; appended = b; taken = c; good = d; sum = e }

-- the same, of a tally of some notes
pub counted : (old new : TallyState) (before : List Note) (note : Note) → new.notes ≡ old.notes + 1 → new.appended ≡ old.appended + one_if (is_append note) → new.taken ≡ old.taken + one_if (is_taken note) → new.good ≡ old.good + one_if (is_good note)
    → new.sum ≡ behind_line old.sum (note_text note) → old ≡ tally_of before → new ≡ tally_of (before ++ note ∷ [])
counted old new before note n a t g s h =
    let whole : new ≡ record { notes = old.notes + 1; appended = old.appended + one_if (is_append note); taken = old.taken + one_if (is_taken note); good = old.good + one_if (is_good note); sum = behind_line old.sum (note_text note) }
    = same new.notes new.appended new.taken new.good new.sum _ _ _ _ _ n a t g s in
    whole
    ∙ ap (λ o. record { notes = o.notes + 1; appended = o.appended + one_if (is_append note); taken = o.taken + one_if (is_taken note); good = o.good + one_if (is_good note); sum = behind_line o.sum (note_text note) }) h
    ∙ sym (tally-more before note)
  where
    same : (a b c d e k l m n o : ℕ) → a ≡ k → b ≡ l → c ≡ m → d ≡ n → e ≡ o → tally a b c d e ≡ tally k l m n o
    same a b c d e k l m n o p q r s t = rw (p, q, r, s, t) refl

-- a number that tells whether it is so
pub byte_is : (b : Bool) → from_bool b ≡ one_if b
byte_is true = refl
byte_is false = refl
