-- Bytes in the canonical form, read back.
use Rattle.std.proofs.Common.{◌≡◌, ◌==◌, ◌<◌, ◌^◌, ◌⊎◌, inl, ℕ, zero, suc, nat_le, true, false, cond, List, [], ◌∷◌, ◌++◌, map, length, replicate, append_assoc, length-append, refl, sym, ap, ◌∙◌, lit<, arith}
use Rattle.std.proofs.lemmas.List.{length-replicate}
use Rattle.std.specs.List.{join_with_byte, flat_map, AllByRecursion}
use Rattle.std.proofs.Common.{None, subst}
use Rattle.std.specs.Fmt.{decimal}
use Rattle.hex.specs.Hex.{encode_upper, decode_pairs, hex_digit_value}
use Rattle.line_text.specs.Canonical.{Run, runs_of, run_bytes, AreMaximal, Piece, plain, repeated, onto_pieces, pieces_of, piece_text, canonical}
use Rattle.sbp_journal.specs.Written.{AreBytes}
use Rattle.sbp_journal.proofs.Each.{all_append, all_front, all_back}
use Rattle.journal_text.proofs.MaximalRuns.{are_runs}
use Rattle.journal_text.proofs.WordsBack.{Lacks, split, split-join, lacks-append}
use Rattle.journal_text.proofs.FieldsBack.{number_of, number_back, unhex, unhex_back, byte_in, byte_back, encode_lacks, decimal_lacks}

-- ---- one piece

abbrev piece_from : List (List ℕ) → List ℕ
piece_from [] = []
piece_from (word ∷ []) = unhex word
piece_from (word ∷ count ∷ rest) = replicate (number_of count) (byte_in word)

abbrev read_piece : List ℕ → List ℕ
read_piece text = piece_from (split 42 text)

abbrev pub canonical_from : List ℕ → List ℕ
canonical_from text = flat_map read_piece (split 43 text)

abbrev piece_bytes : Piece → List ℕ
piece_bytes (plain bs) = bs
piece_bytes (repeated byte count) = replicate count byte

abbrev FitsPiece : Piece → Type 0
FitsPiece (plain bs) = AreBytes bs
FitsPiece (repeated byte count) = (byte < 256) × (count < 2 ^ 64)

piece_back : (piece : Piece) → FitsPiece piece → read_piece (piece_text piece) ≡ piece_bytes piece
piece_back (plain bs) h = ap piece_from (split-join 42 (encode_upper bs) [] (encode_lacks 42 bs refl h, tt)) ∙ unhex_back bs h
piece_back (repeated byte count) h =
    ap piece_from (split-join 42 (encode_upper (byte ∷ [])) (decimal count ∷ []) (encode_lacks 42 (byte ∷ []) refl (h.0, tt), (decimal_lacks 42 count h.1 (inl (lit< tt)), tt)))
    ∙ rw (number_back count h.1, byte_back byte h.0) refl

-- a byte that is no digit and no `*`
pub record IsApart (c : ℕ) : Type 0 where
  pub hex : hex_digit_value c ≡ None
  pub decimal : (c < 48) ⊎ (57 < c)
  pub star : (42 == c) ≡ false

piece_lacks : (c : ℕ) → IsApart c → (piece : Piece) → FitsPiece piece → Lacks c (piece_text piece)
piece_lacks c out (plain bs) h = encode_lacks c bs out.hex h
piece_lacks c out (repeated byte count) h =
    lacks-append c (encode_upper (byte ∷ [])) (42 ∷ decimal count) (encode_lacks c (byte ∷ []) out.hex (h.0, tt)) (out.star, decimal_lacks c count h.1 out.decimal)

pieces_lack : (c : ℕ) → IsApart c → (ps : List Piece) → AllByRecursion FitsPiece ps → AllByRecursion (Lacks c) (map piece_text ps)
pieces_lack c out [] h = tt
pieces_lack c out (piece ∷ ps) h = (piece_lacks c out piece h.0, pieces_lack c out ps h.1)

-- ---- all pieces

texts_back : (ps : List Piece) → AllByRecursion FitsPiece ps → flat_map read_piece (map piece_text ps) ≡ flat_map piece_bytes ps
texts_back [] h = refl
texts_back (piece ∷ ps) h = ap (λ bs. bs ++ flat_map read_piece (map piece_text ps)) (piece_back piece h.0) ∙ ap (λ bs. piece_bytes piece ++ bs) (texts_back ps h.1)

at_plus : IsApart 43
at_plus = record { hex = refl; decimal = inl (lit< tt); star = refl }

pieces_back : (ps : List Piece) → AllByRecursion FitsPiece ps → canonical_from (join_with_byte 43 (map piece_text ps)) ≡ flat_map piece_bytes ps
unfolding decode_pairs
pieces_back [] h = refl
pieces_back (piece ∷ ps) h =
    ap (flat_map read_piece) (split-join 43 (piece_text piece) (map piece_text ps) (pieces_lack 43 at_plus (piece ∷ ps) h)) ∙ texts_back (piece ∷ ps) h

-- ---- the pieces of runs

onto_pieces-bytes : (between : List ℕ) (ps : List Piece) → flat_map piece_bytes (onto_pieces between ps) ≡ between ++ flat_map piece_bytes ps
onto_pieces-bytes [] ps = refl
onto_pieces-bytes (byte ∷ between) ps = refl

pieces_of-bytes : (runs : List Run) (between : List ℕ) → flat_map piece_bytes (pieces_of between runs) ≡ between ++ flat_map run_bytes runs
pieces_of-bytes [] between = onto_pieces-bytes between []
pieces_of-bytes (run ∷ runs) between =
    elim (nat_le 4 run.count) as (λ t. flat_map piece_bytes (cond t (onto_pieces between (repeated run.byte run.count ∷ pieces_of [] runs)) (pieces_of (between ++ run_bytes run) runs)) ≡ between ++ (run_bytes run ++ flat_map run_bytes runs)) [
      | true ↦ onto_pieces-bytes between (repeated run.byte run.count ∷ pieces_of [] runs) ∙ ap (λ bs. between ++ (run_bytes run ++ bs)) (pieces_of-bytes runs [])
      | false ↦ pieces_of-bytes runs (between ++ run_bytes run) ∙ append_assoc between (run_bytes run) (flat_map run_bytes runs)
    ]

abbrev FitsRun : Run → Type 0
FitsRun run = (run.byte < 256) × (run.count < 2 ^ 64) × AreBytes (run_bytes run)

onto_pieces-fit : (between : List ℕ) (ps : List Piece) → AreBytes between → AllByRecursion FitsPiece ps → AllByRecursion FitsPiece (onto_pieces between ps)
onto_pieces-fit [] ps h k = k
onto_pieces-fit (byte ∷ between) ps h k = (h, k)

pieces_of-fit : (runs : List Run) (between : List ℕ) → AllByRecursion FitsRun runs → AreBytes between → AllByRecursion FitsPiece (pieces_of between runs)
pieces_of-fit [] between h k = onto_pieces-fit between [] k tt
pieces_of-fit (run ∷ runs) between h k =
    elim (nat_le 4 run.count) as (λ t. AllByRecursion FitsPiece (cond t (onto_pieces between (repeated run.byte run.count ∷ pieces_of [] runs)) (pieces_of (between ++ run_bytes run) runs))) [
      | true ↦ onto_pieces-fit between (repeated run.byte run.count ∷ pieces_of [] runs) k ((h.0.0, h.0.1), pieces_of-fit runs [] h.1 tt)
      | false ↦ pieces_of-fit runs (between ++ run_bytes run) h.1 (all_append (λ byte. byte < 256) between (run_bytes run) k h.0.2)
    ]

first_fits : (byte count : ℕ) → 0 < count → AreBytes (replicate count byte) → byte < 256
first_fits byte zero h k = absurd (omega arith)
first_fits byte (suc count) h k = k.0

runs_fit : (runs : List Run) → AreMaximal runs → AreBytes (flat_map run_bytes runs) → length (flat_map run_bytes runs) < 2 ^ 64 → AllByRecursion FitsRun runs
runs_fit [] m h k = tt
runs_fit (run ∷ runs) m h k =
    let own = all_front (λ byte. byte < 256) (run_bytes run) (flat_map run_bytes runs) h in
    let len = length-append (run_bytes run) (flat_map run_bytes runs) in
    let count = length-replicate run.count run.byte in
    ((first_fits run.byte run.count m.0 own, omega arith, own), runs_fit runs m.2 (all_back (λ byte. byte < 256) (run_bytes run) (flat_map run_bytes runs) h) (omega arith))

bytes_fit : (bs : List ℕ) → AreBytes bs → length bs < 2 ^ 64 → AllByRecursion FitsPiece (pieces_of [] (runs_of bs))
bytes_fit bs h k =
    let runs = are_runs bs in
    pieces_of-fit (runs_of bs) [] (runs_fit (runs_of bs) runs.maximal (subst AreBytes (sym runs.join) h) (subst (λ b. length b < 2 ^ 64) (sym runs.join) k)) tt

pub canonical_back : (bs : List ℕ) → AreBytes bs → length bs < 2 ^ 64 → canonical_from (canonical bs) ≡ bs
canonical_back [] h k = refl
canonical_back (byte ∷ bs) h k =
    pieces_back (pieces_of [] (runs_of (byte ∷ bs))) (bytes_fit (byte ∷ bs) h k) ∙ pieces_of-bytes (runs_of (byte ∷ bs)) [] ∙ (are_runs (byte ∷ bs)).join

-- ---- what a canonical form lacks

pub join_lacks : (c : ℕ) → (43 == c) ≡ false → (words : List (List ℕ)) → AllByRecursion (Lacks c) words → Lacks c (join_with_byte 43 words)
join_lacks c out [] h = tt
join_lacks c out (word ∷ []) h = h.0
join_lacks c out (word ∷ next ∷ words) h = lacks-append c word (43 ∷ join_with_byte 43 (next ∷ words)) h.0 (out, join_lacks c out (next ∷ words) h.1)

pub canonical_lacks : (c : ℕ) → IsApart c → (43 == c) ≡ false → (45 == c) ≡ false → (bs : List ℕ) → AreBytes bs → length bs < 2 ^ 64 → Lacks c (canonical bs)
canonical_lacks c out plus dash [] h k = (dash, tt)
canonical_lacks c out plus dash (byte ∷ bs) h k =
    join_lacks c plus (map piece_text (pieces_of [] (runs_of (byte ∷ bs)))) (pieces_lack c out (pieces_of [] (runs_of (byte ∷ bs))) (bytes_fit (byte ∷ bs) h k))
