-- Each note of the stated form is one line, whatever numbers it has: the text of notes is cut at its line feeds into their lines.
use Rattle.std.proofs.Common.{◌≡◌, ◌==◌, ◌/◌, ◌%◌, ◌+◌, refl, ℕ, zero, suc, nat_lt, Bool, true, false, cond, List, [], ◌∷◌, ◌++◌, map, slice_index, Some, None, arith}
use Rattle.std.specs.List.{AllByRecursion, join_with_byte}
use Rattle.std.specs.Fmt.{decimal, digits, digits_onto, digit_glyph}
use Rattle.std.proofs.lemmas.Bool.Decides.{nat_tests}
use Rattle.hex.specs.Hex.{encode_upper, encode_with, upper_digits}
use Rattle.line_text.specs.Canonical.{Piece, plain, repeated, canonical, piece_text, pieces_of, runs_of}
use Rattle.line_text.specs.Fields as texts
use Rattle.line_text.specs.Fields.{Field, number, maybe, node_name, unit_name, payload, bytes, sense_data, name, word}
use Rattle.sbp_journal.specs.Form.{HasForm}
use Rattle.sbp_journal.specs.Text.{fields, keyword, note_text, text_of, words_of}
use Rattle.sbp_journal.specs.declared.note.Note.{Note}
use Rattle.drill_text.specs.Laws.{IsLine}
use Rattle.drill_text.specs.Sums.{trace}
use Rattle.drill_text.specs.Tally.{tally_of}
use Rattle.drill_text.proofs.Traces.{goes_by_lines}
use Rattle.journal_text.proofs.WordsBack.{Lacks, lacks, lacks-append}
use Rattle.journal_text.proofs.CanonicalBack as canonicals
use Rattle.journal_text.proofs.TextsBack.{IsPlain, is_plain, join_lacks, plain_fields, plain_keyword}

-- ---- digits

glyph_lacks : (d : ℕ) → (digit_glyph false d == 10) ≡ false
glyph_lacks d = by_test (nat_lt d 10)
  where
    by_test : (t : Bool) → (cond t (48 + d) (87 + d) == 10) ≡ false
    by_test true = grind (arith, nat_tests)
    by_test false = grind (arith, nat_tests)

onto_lacks : (k n : ℕ) (behind : List ℕ) → Lacks 10 behind → Lacks 10 (digits_onto k 10 false n behind)
onto_lacks zero n behind h = h
onto_lacks (suc k) n behind h = by_test (n / 10 == 0) (onto_lacks k (n / 10) (digit_glyph false (n % 10) ∷ behind) (glyph_lacks (n % 10), h))
  where
    by_test : (t : Bool) → Lacks 10 (digits_onto k 10 false (n / 10) (digit_glyph false (n % 10) ∷ behind)) → Lacks 10 (cond t (digit_glyph false (n % 10) ∷ behind) (digits_onto k 10 false (n / 10) (digit_glyph false (n % 10) ∷ behind)))
    by_test true more = (glyph_lacks (n % 10), h)
    by_test false more = more

decimal_lacks : (n : ℕ) → Lacks 10 (decimal n)
unfolding digits
decimal_lacks n = onto_lacks 64 n [] tt

-- a byte of a list that lacks it, or none
byte_lacks : (word : List ℕ) → Lacks 10 word → (k : ℕ) → (slice_index word k == 10) ≡ false
byte_lacks [] h k = refl
byte_lacks (byte ∷ word) h zero = h.0
byte_lacks (byte ∷ word) h (suc k) = byte_lacks word h.1 k

hex_lacks : (k : ℕ) → (slice_index upper_digits k == 10) ≡ false
hex_lacks k = byte_lacks upper_digits (lacks 10 is_plain upper_digits refl refl) k

encode_lacks : (bs : List ℕ) → Lacks 10 (encode_upper bs)
unfolding encode_with
encode_lacks [] = tt
encode_lacks (byte ∷ bs) = (hex_lacks (byte / 16), (hex_lacks (byte % 16), encode_lacks bs))

-- ---- words

piece_lacks : (piece : Piece) → Lacks 10 (piece_text piece)
piece_lacks (plain bs) = encode_lacks bs
piece_lacks (repeated byte count) = lacks-append 10 (encode_upper (byte ∷ [])) (42 ∷ decimal count) (encode_lacks (byte ∷ [])) (refl, decimal_lacks count)

pieces_lack : (pieces : List Piece) → AllByRecursion (Lacks 10) (map piece_text pieces)
pieces_lack [] = tt
pieces_lack (piece ∷ pieces) = (piece_lacks piece, pieces_lack pieces)

canonical_lacks : (bs : List ℕ) → Lacks 10 (canonical bs)
canonical_lacks [] = (refl, tt)
canonical_lacks (byte ∷ bs) =
    let pieces = pieces_of [] (runs_of (byte ∷ bs)) in
    canonicals.join_lacks 10 refl (map piece_text pieces) (pieces_lack pieces)

word_lacks : (field : Field) → IsPlain field → Lacks 10 (word field)
word_lacks (number n) p = decimal_lacks n
word_lacks (maybe None) p = (refl, tt)
word_lacks (maybe (Some n)) p = decimal_lacks n
word_lacks (node_name zero) p = (refl, tt)
word_lacks (node_name (suc n)) p = decimal_lacks n
word_lacks (unit_name n) p = (refl, decimal_lacks n)
word_lacks (texts.digits bs) p = encode_lacks bs
word_lacks (payload []) p = (refl, tt)
word_lacks (payload (byte ∷ rest)) p = encode_lacks (byte ∷ rest)
word_lacks (bytes bs) p = canonical_lacks bs
word_lacks (sense_data sense) p = (
  hex_lacks sense.key,
  (refl, lacks-append 10 (encode_upper (sense.code ∷ [])) (47 ∷ encode_upper (sense.qualifier ∷ [])) (encode_lacks (sense.code ∷ [])) (refl, encode_lacks (sense.qualifier ∷ []))),
)
word_lacks (name text) p = lacks 10 is_plain text refl p

words_lack : (fs : List Field) → AllByRecursion IsPlain fs → AllByRecursion (Lacks 10) (map word fs)
words_lack [] p = tt
words_lack (field ∷ fs) p = (word_lacks field p.0, words_lack fs p.1)

-- ---- lines

pub note_line : (note : Note) → HasForm note → IsLine (note_text note)
note_line note h = record {
  words = join_with_byte 32 (words_of note);
  is = refl;
  no_feed = join_lacks 10 refl (words_of note) (lacks 10 is_plain (keyword note) refl (plain_keyword note), words_lack (fields note) (plain_fields note h));
}

note_lines : (notes : List Note) → AllByRecursion HasForm notes → AllByRecursion (λ note. IsLine (note_text note)) notes
note_lines [] h = tt
note_lines (note ∷ notes) h = (note_line note h.0, note_lines notes h.1)

pub trace_of_text : (notes : List Note) → AllByRecursion HasForm notes → (tally_of notes).sum ≡ trace (text_of notes)
trace_of_text notes h = goes_by_lines notes (note_lines notes h)
