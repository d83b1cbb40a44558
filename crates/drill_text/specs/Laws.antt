-- What the sum over a journal means, in laws.
use Rattle.std.specs.Prelude.{◌≡◌, ℕ, ◌==◌, false, List, [], ◌∷◌, ◌++◌, codes}
use Rattle.std.specs.List.{AllByRecursion}
use Rattle.sbp_journal.specs.Text.{note_text, text_of}
use Rattle.sbp_journal.specs.declared.note.Note.{Note}
use Rattle.drill_text.specs.Sums.{behind_lines, lines_of, sum_of_bytes, trace}
use Rattle.drill_text.specs.Tally.{tally_of}

-- a line with its line feed
pub record IsLine (line : List ℕ) : Type 0 where
  pub words : List ℕ
  pub is : line ≡ words ++ 10 ∷ []
  pub no_feed : AllByRecursion (λ byte. (byte == 10) ≡ false) words

-- The sum over a text of notes is taken from line to line, whatever pieces the text comes in: it is that of the text cut at its line
-- feeds, and the sum over more notes goes on from that over those before.
abbrev pub TraceLaw : Type 0
TraceLaw = (notes : List Note) → AllByRecursion (λ note. IsLine (note_text note)) notes → (tally_of notes).sum ≡ trace (text_of notes)

abbrev pub GoesOnLaw : Type 0
GoesOnLaw = (notes more : List Note) → AllByRecursion (λ note. IsLine (note_text note)) more → (tally_of (notes ++ more)).sum ≡ behind_lines (tally_of notes).sum (lines_of (text_of more))

-- Worked sums, of another program: over bytes, and over a text of two lines.
pub record KnownSums : Type 0 where
  pub of_none : sum_of_bytes [] ≡ 0
  pub of_digits : sum_of_bytes (codes "12345678") ≡ 0x9015
  pub of_five : sum_of_bytes (codes "12345") ≡ 0xCC49
  pub of_lines : trace ((codes "tick" ++ 10 ∷ []) ++ (codes "settled" ++ 10 ∷ [])) ≡ 0xF6EF
