-- The first word of a line, and the words behind it, if it has a blank.
use Rattle.std.specs.Prelude.{position}
use Rattle.std.proofs.Common.{◌≡◌, ◌+◌, ◌==◌, ◌-◌, ◌∙◌, sym, ap, subst, refl, ℕ, nat_lt, Bool, true, false, cond, List, [], ◌∷◌, take, drop, length, Option, Some, None, Err, arith, ltb-true, ltb-false}
use Rattle.std.specs.List.{position_or_len}
use Rattle.std.proofs.lemmas.List.Splits.{slice_split_first, slice_split_none}
use Rattle.std.proofs.lemmas.List.Sums.{fails_before_first}
use Rattle.std.proofs.lemmas.List.{length-drop}
use denote.Ref.{Bor}
use Rattle.script_words.specs.declared.fault.LineFault.TheVariants as faults
use Rattle.script_words.specs.Words.{words}
use Rattle.retry_queue.specs.Lines.{pumping, words_behind}
use Rattle.retry_queue.proofs.Cases.{take_whole}

abbrev pub is_blank : ℕ → Bool
is_blank byte = byte == 32

place_of : (t : Bool) (at other : ℕ) → cond t (Some at) None ≡ Some other → (t ≡ true) × (at ≡ other)
place_of true at other e = (refl, cc e)
place_of false at other e = absurd (cc e)

no_place : (t : Bool) (at : ℕ) → cond t (Some at) None ≡ None → t ≡ false
no_place true at e = absurd (cc e)
no_place false at e = refl

-- a blank ends the first word
words_at : (line : List ℕ) (at : ℕ) → position is_blank line ≡ Some at → words line ≡ take at line ∷ words (drop (at + 1) line)
words_at line at e =
    let p = place_of (nat_lt (position_or_len is_blank line) (length line)) (position_or_len is_blank line) at e in
    subst (λ n. words line ≡ take n line ∷ words (drop (n + 1) line)) p.1 (slice_split_first is_blank line 0 (ltb-true (position_or_len is_blank line) (length line) p.0))

-- a line without a blank is one word
pub words_alone : (line : List ℕ) → position is_blank line ≡ None → words line ≡ line ∷ []
words_alone line e =
    let none = ltb-false (position_or_len is_blank line) (length line) (no_place (nat_lt (position_or_len is_blank line) (length line)) (position_or_len is_blank line) e) in
    slice_split_none is_blank line (λ k d small. fails_before_first is_blank line k d (omega (arith, none, small)))

-- a slice to the end of a line is what stands there
pub words_cut : (line : List ℕ) (at : ℕ) → Some at ≡ position is_blank line → words line ≡ take at line ∷ words (take (length line - (at + 1)) (drop (at + 1) line))
words_cut line at e =
    words_at line at (sym e)
    ∙ ap (λ rest. take at line ∷ words rest) (sym (ap (λ n. take n (drop (at + 1) line)) (sym (length-drop (at + 1) line)) ∙ take_whole (drop (at + 1) line)))

-- there is always a word, and so one behind a blank, where `pump` has none
some_word : (line : List ℕ) → Err faults.Shape ≡ pumping (words line)
some_word line = by_place (position is_blank line) refl
  where
    by_place : (place : Option ℕ) → position is_blank line ≡ place → Err faults.Shape ≡ pumping (words line)
    by_place (Some at) e = sym (ap pumping (words_at line at e))
    by_place None e = sym (ap pumping (words_alone line e))

pub pumps_alone : (rest : Option (Bor (List ℕ))) (behind : Bor (List ℕ)) → rest ≡ Some behind → Err faults.Shape ≡ pumping (words_behind rest)
pumps_alone rest behind e = subst (λ r. Err faults.Shape ≡ pumping (words_behind r)) (sym e) (some_word behind.now)
