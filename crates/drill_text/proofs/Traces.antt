-- The lines of a text.
use Rattle.std.proofs.Common.{◌≡◌, ◌∙◌, refl, sym, ap, ℕ, ◌==◌, cond, false, List, [], ◌∷◌, ◌++◌, map}
use Rattle.std.specs.List.{AllByRecursion}
use Rattle.sbp_journal.specs.Text.{note_text, text_of}
use Rattle.sbp_journal.specs.declared.note.Note.{Note}
use Rattle.drill_text.specs.Sums.{behind_lines, lines_of, onto_lines}
use Rattle.drill_text.specs.Tally.{tally_of}
use Rattle.drill_text.specs.Laws.{IsLine, TraceLaw, GoesOnLaw}
use Rattle.drill_text.proofs.Tallies.{lines-append}

-- a line feed ends a line
feed-first : (lines : List (List ℕ)) → onto_lines 10 lines ≡ (10 ∷ []) ∷ lines
feed-first [] = refl
feed-first (line ∷ lines) = refl

-- another byte goes to the line behind it
byte-first : (byte : ℕ) (line : List ℕ) (lines : List (List ℕ)) → (byte == 10) ≡ false → onto_lines byte (line ∷ lines) ≡ (byte ∷ line) ∷ lines
byte-first byte line lines h = ap (λ b. cond b ((byte ∷ []) ∷ line ∷ lines) ((byte ∷ line) ∷ lines)) h

line-first : (words text : List ℕ) → AllByRecursion (λ byte. (byte == 10) ≡ false) words → lines_of ((words ++ 10 ∷ []) ++ text) ≡ (words ++ 10 ∷ []) ∷ lines_of text
line-first [] text h = feed-first (lines_of text)
line-first (byte ∷ words) text h = ap (onto_lines byte) (line-first words text h.1) ∙ byte-first byte (words ++ 10 ∷ []) (lines_of text) h.0

pub notes-lines : (notes : List Note) → AllByRecursion (λ note. IsLine (note_text note)) notes → lines_of (text_of notes) ≡ map note_text notes
notes-lines [] h = refl
notes-lines (note ∷ notes) h =
    let l = h.0 in
    ap (λ line. lines_of (line ++ text_of notes)) l.is
    ∙ line-first l.words (text_of notes) l.no_feed
    ∙ ap (λ line. line ∷ lines_of (text_of notes)) (sym l.is)
    ∙ ap (λ lines. note_text note ∷ lines) (notes-lines notes h.1)

pub goes_by_lines : TraceLaw
unfolding tally_of
goes_by_lines notes h = ap (behind_lines 0) (sym (notes-lines notes h))

pub goes_on : GoesOnLaw
unfolding tally_of
goes_on notes more h = lines-append 0 notes more ∙ ap (behind_lines (behind_lines 0 (map note_text notes))) (sym (notes-lines more h))
