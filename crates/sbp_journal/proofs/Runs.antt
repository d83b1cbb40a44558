-- The canonical form, made run by run from the front.
use Rattle.std.proofs.Common.{◌≡◌, ℕ, ◌+◌, ◌-◌, ◌≤◌, ◌<◌, ◌==◌, suc, Bool, true, false, cond, eqb, nat_le, subst, List, [], ◌∷◌, ◌++◌, length, map, take, drop, drop-cons, get_or, length-drop, replicate, refl, sym, ap, ◌∙◌, append_assoc, arith}
use Rattle.std.specs.List.{join_with_byte, list_all, prefix_len}
use Rattle.std.proofs.Math.Seq.{take-add}
use Rattle.std.proofs.lemmas.List.{drop-drop, drop_all, length-take-le, take-append-drop, take_all}
use Rattle.std.proofs.lemmas.Bool.{and_parts, eqb-true, eq-eqb, le-leb}
use Rattle.std.proofs.lemmas.Bool.Decides.{nat_tests}
use Rattle.hex.specs.Hex.{encode_with}
use Rattle.line_text.specs.Canonical.{Run, onto_runs, runs_of, Piece, plain, repeated, onto_pieces, pieces_of, piece_text, plus, canonical}
use Rattle.sbp_journal.specs.Pieces.{with_piece, with_plain, with_pieces}

-- how many bytes at the front equal `byte`
abbrev pub front : ℕ → List ℕ → ℕ
front byte bytes = prefix_len (λ other. other == byte) bytes

front_all : (byte : ℕ) (xs ys : List ℕ) → list_all (λ other. other == byte) xs ≡ true → front byte (xs ++ ys) ≡ length xs + front byte ys
front_all byte [] ys e = omega arith
front_all byte (x ∷ xs) ys e =
    let parts = and_parts (x == byte) (list_all (λ other. other == byte) xs) e in
    let ind = front_all byte xs ys parts.1 in
    rw parts.0 (omega (arith, ind))

-- a block of such bytes is at the front of the others
pub block_more : (byte at : ℕ) (bytes : List ℕ) → 256 ≤ length (drop at bytes) → list_all (λ other. other == byte) (take 256 (drop at bytes)) ≡ true → at + front byte (drop at bytes) ≡ front byte bytes → (at + 256) + front byte (drop (at + 256) bytes) ≡ front byte bytes
block_more byte at bytes room e h =
    let behind = drop at bytes in
    let size = length-take-le 256 behind room in
    let split = front_all byte (take 256 behind) (drop 256 behind) e in
    let whole = ap (front byte) (take-append-drop 256 behind) in
    let rest = ap (front byte) (drop-drop 256 at bytes) in
    omega (arith, size, split, whole, rest, h)

-- the runs of `byte` and then some bytes: its own run, and the runs of what stands behind it
abbrev front_runs : ℕ → List ℕ → List Run
front_runs byte bytes = record { byte = byte; count = 1 + front byte bytes } ∷ runs_of (drop (front byte bytes) bytes)

one_more : (n : ℕ) → 1 + n ≡ suc n
one_more n = omega arith

front-same : (byte : ℕ) (bytes : List ℕ) → front byte (byte ∷ bytes) ≡ suc (front byte bytes)
front-same byte bytes = rw (eq-eqb byte byte refl) (one_more (front byte bytes))

onto_runs-same : (byte : ℕ) (bytes : List ℕ) → onto_runs byte (front_runs byte bytes) ≡ front_runs byte (byte ∷ bytes)
onto_runs-same byte bytes =
    rw (eq-eqb byte byte refl, one_more (front byte bytes)) (ap (λ n. record { byte = byte; count = n } ∷ runs_of (drop (front byte bytes) bytes)) (omega arith))

eqb-other : (a b : ℕ) → eqb b a ≡ false → eqb a b ≡ false
eqb-other a b h = grind (arith, nat_tests)

onto_runs-other : (byte next : ℕ) (bytes : List ℕ) → eqb next byte ≡ false → runs_of (next ∷ bytes) ≡ front_runs next bytes → onto_runs byte (front_runs next bytes) ≡ front_runs byte (next ∷ bytes)
onto_runs-other byte next bytes h e =
    rw (eqb-other byte next h, h) (ap (λ runs. record { byte = byte; count = 1 } ∷ runs) (sym e))

onto_runs-front : (t : Bool) (byte next : ℕ) (bytes : List ℕ) → eqb next byte ≡ t → runs_of (next ∷ bytes) ≡ front_runs next bytes → onto_runs byte (front_runs next bytes) ≡ front_runs byte (next ∷ bytes)
onto_runs-front true byte next bytes h e =
    subst (λ n. onto_runs byte (front_runs n bytes) ≡ front_runs byte (n ∷ bytes)) (sym (eqb-true next byte h)) (onto_runs-same byte bytes)
onto_runs-front false byte next bytes h e = onto_runs-other byte next bytes h e

runs_of-front : (byte : ℕ) (bytes : List ℕ) → runs_of (byte ∷ bytes) ≡ front_runs byte bytes
runs_of-front byte [] = refl
runs_of-front byte (next ∷ bytes) =
    let rest = runs_of-front next bytes in
    ap (onto_runs byte) rest ∙ onto_runs-front (eqb next byte) byte next bytes refl rest

take-front_of : (t : Bool) (byte next : ℕ) (bytes : List ℕ) → eqb next byte ≡ t → take (front byte bytes) bytes ≡ replicate (front byte bytes) byte → take (front byte (next ∷ bytes)) (next ∷ bytes) ≡ replicate (front byte (next ∷ bytes)) byte
take-front_of true byte next bytes h e = let same = eqb-true next byte h in rw (h, one_more (front byte bytes)) (ap (λ n. n ∷ take (front byte bytes) bytes) same ∙ ap (λ bs. byte ∷ bs) e)
take-front_of false byte next bytes h e = rw h refl

take-front : (byte : ℕ) (bytes : List ℕ) → take (front byte bytes) bytes ≡ replicate (front byte bytes) byte
take-front byte [] = refl
take-front byte (next ∷ bytes) = take-front_of (eqb next byte) byte next bytes refl (take-front byte bytes)

-- the run that some bytes begin with
runs_of-run : (byte : ℕ) (bytes : List ℕ) (count : ℕ) → count ≡ front byte (byte ∷ bytes) → runs_of (byte ∷ bytes) ≡ record { byte = byte; count = count } ∷ runs_of (drop count (byte ∷ bytes))
runs_of-run byte bytes count e =
    let same = front-same byte bytes in
    rw (e, same) (runs_of-front byte bytes ∙ ap (λ n. record { byte = byte; count = n } ∷ runs_of (drop (front byte bytes) bytes)) (one_more (front byte bytes)))

-- a short run goes on what stands between long runs
short_run : (between : List ℕ) (byte : ℕ) (bytes : List ℕ) (count : ℕ) → count ≡ front byte (byte ∷ bytes) → count < 4 → pieces_of between (runs_of (byte ∷ bytes)) ≡ pieces_of (between ++ take count (byte ∷ bytes)) (runs_of (drop count (byte ∷ bytes)))
short_run between byte bytes count e h =
    let short : nat_le 4 count ≡ false = grind (arith, nat_tests) in
    let taken : take count (byte ∷ bytes) ≡ replicate count byte = subst (λ n. take n (byte ∷ bytes) ≡ replicate n byte) (sym e) (take-front byte (byte ∷ bytes)) in
    ap (pieces_of between) (runs_of-run byte bytes count e) ∙ rw (short, taken) refl

-- a long run is a piece, behind the digits of what stands before it
with_pieces-onto : (text between : List ℕ) (piece : Piece) (pieces : List Piece) → with_pieces text (onto_pieces between (piece ∷ pieces)) ≡ with_pieces (with_piece (with_plain text between) (piece_text piece)) pieces
with_pieces-onto text [] piece pieces = refl
with_pieces-onto text (first ∷ between) piece pieces = refl

long_run : (text between : List ℕ) (byte : ℕ) (bytes : List ℕ) (count : ℕ) → count ≡ front byte (byte ∷ bytes) → 4 ≤ count → with_pieces text (pieces_of between (runs_of (byte ∷ bytes))) ≡ with_pieces (with_piece (with_plain text between) (piece_text (repeated byte count))) (pieces_of [] (runs_of (drop count (byte ∷ bytes))))
long_run text between byte bytes count e h =
    let long : nat_le 4 count ≡ true = le-leb 4 count h in
    ap (λ runs. with_pieces text (pieces_of between runs)) (runs_of-run byte bytes count e)
    ∙ rw long (with_pieces-onto text between (repeated byte count) (pieces_of [] (runs_of (drop count (byte ∷ bytes)))))

-- a first piece has text
abbrev starts_with_text : List Piece → Bool
starts_with_text (plain [] ∷ pieces) = false
starts_with_text _ = true

onto_pieces-starts : (between : List ℕ) (byte count : ℕ) (pieces : List Piece) → starts_with_text (onto_pieces between (repeated byte count ∷ pieces)) ≡ true
onto_pieces-starts [] byte count pieces = refl
onto_pieces-starts (first ∷ between) byte count pieces = refl

onto_none-starts : (between : List ℕ) → starts_with_text (onto_pieces between []) ≡ true
onto_none-starts [] = refl
onto_none-starts (first ∷ between) = refl

pieces_of-starts : (runs : List Run) (between : List ℕ) → starts_with_text (pieces_of between runs) ≡ true
pieces_of-starts [] between = onto_none-starts between
pieces_of-starts (run ∷ runs) between =
    elim (nat_le 4 run.count) as (λ t. starts_with_text (cond t (onto_pieces between (repeated run.byte run.count ∷ pieces_of [] runs)) (pieces_of (between ++ replicate run.count run.byte) runs)) ≡ true) [
      | true ↦ onto_pieces-starts between run.byte run.count (pieces_of [] runs)
      | false ↦ pieces_of-starts runs (between ++ replicate run.count run.byte)
    ]

-- pieces added one by one are the pieces joined by `+`
join-append : (text word : List ℕ) (words : List (List ℕ)) → join_with_byte plus ((text ++ plus ∷ word) ∷ words) ≡ text ++ plus ∷ join_with_byte plus (word ∷ words)
join-append text word [] = refl
join-append text word (next ∷ words) = append_assoc text (plus ∷ word) (plus ∷ join_with_byte plus (next ∷ words))

with_pieces-join : (pieces : List Piece) (byte : ℕ) (text : List ℕ) → with_pieces (byte ∷ text) pieces ≡ join_with_byte plus ((byte ∷ text) ∷ map piece_text pieces)
with_pieces-join [] byte text = refl
with_pieces-join (piece ∷ pieces) byte text =
    with_pieces-join pieces byte (text ++ plus ∷ piece_text piece) ∙ join-append (byte ∷ text) (piece_text piece) (map piece_text pieces)

with_pieces-first : (pieces : List Piece) → starts_with_text pieces ≡ true → with_pieces [] pieces ≡ join_with_byte plus (map piece_text pieces)
unfolding encode_with
with_pieces-first [] h = refl
with_pieces-first (plain [] ∷ pieces) h = cc h
with_pieces-first (plain (byte ∷ bytes) ∷ pieces) h = with_pieces-join pieces _ _
with_pieces-first (repeated byte count ∷ pieces) h = with_pieces-join pieces _ _

pub canonical-pieces : (bytes : List ℕ) → 0 < length bytes → canonical bytes ≡ with_pieces [] (pieces_of [] (runs_of bytes))
canonical-pieces [] h = absurd (omega arith)
canonical-pieces (byte ∷ bytes) h = sym (with_pieces-first (pieces_of [] (runs_of (byte ∷ bytes))) (pieces_of-starts (runs_of (byte ∷ bytes)) []))

-- what stands behind the last long run
with_pieces-end : (text between : List ℕ) → with_pieces text (onto_pieces between []) ≡ with_plain text between
with_pieces-end text [] = refl
with_pieces-end text (byte ∷ bytes) = refl

-- A place `at` of the bytes where a run begins, or their end, and the place `start` where the last long run before it ended.

-- `&bytes[at..]`
tail_is : (bytes : List ℕ) (at : ℕ) → take (length bytes - at) (drop at bytes) ≡ drop at bytes
tail_is bytes at = take_all (length bytes - at) (drop at bytes) (omega (arith, length-drop at bytes))

-- what a text becomes when the rest of the bytes has been added
abbrev pub completed : List ℕ → List ℕ → ℕ → ℕ → List ℕ
completed bytes text start at = with_pieces text (pieces_of (take (at - start) (drop start bytes)) (runs_of (drop at bytes)))

-- the run that begins at `at` has `count` bytes
abbrev pub HasRun : List ℕ → ℕ → ℕ → Type 0
HasRun bytes at count = count ≡ front (get_or bytes at 0) (take (length bytes - at) (drop at bytes))

front_here : (bytes : List ℕ) (at count : ℕ) → at < length bytes → HasRun bytes at count → count ≡ front (get_or bytes at 0) (get_or bytes at 0 ∷ drop (suc at) bytes)
front_here bytes at count h e = e ∙ ap (front (get_or bytes at 0)) (tail_is bytes at ∙ drop-cons bytes at 0 h)

pub short_turn : (bytes text : List ℕ) (start at count : ℕ) → start ≤ at → at < length bytes → HasRun bytes at count → count < 4 → completed bytes text start at ≡ completed bytes text start (at + count)
short_turn bytes text start at count order within e h =
    let run = short_run (take (at - start) (drop start bytes)) (get_or bytes at 0) (drop (suc at) bytes) count (front_here bytes at count within e) h in
    let gap : at + count - start ≡ (at - start) + count = omega arith in
    let back : start + (at - start) ≡ at = omega arith in
    rw (gap, take-add (at - start) count (drop start bytes), drop-drop (at - start) start bytes, back, ← drop-drop count at bytes, drop-cons bytes at 0 within) (ap (with_pieces text) run)

pub long_turn : (bytes text : List ℕ) (start at count : ℕ) → at < length bytes → HasRun bytes at count → 4 ≤ count → completed bytes text start at ≡ completed bytes (with_piece (with_plain text (take (at - start) (drop start bytes))) (piece_text (repeated (get_or bytes at 0) count))) (at + count) (at + count)
long_turn bytes text start at count within e h =
    let run = long_run text (take (at - start) (drop start bytes)) (get_or bytes at 0) (drop (suc at) bytes) count (front_here bytes at count within e) h in
    let none : at + count - (at + count) ≡ 0 = omega arith in
    rw (none, ← drop-drop count at bytes, drop-cons bytes at 0 within) run

pub last_turn : (bytes text : List ℕ) (start at : ℕ) → at ≤ length bytes → length bytes ≤ at → completed bytes text start at ≡ with_plain text (take (length bytes - start) (drop start bytes))
last_turn bytes text start at within past =
    let end : at ≡ length bytes = omega arith in
    rw (drop_all at bytes past, end) (with_pieces-end text (take (length bytes - start) (drop start bytes)))

-- bytes that are one long run
pub one_run_text : (bytes : List ℕ) (count : ℕ) → 0 < length bytes → count ≡ front (get_or bytes 0 0) bytes → count ≡ length bytes → 4 ≤ count → canonical bytes ≡ piece_text (repeated (get_or bytes 0 0) count)
one_run_text bytes count some e whole long =
    let text = piece_text (repeated (get_or bytes 0 0) count) in
    let behind : 0 + count ≡ count = omega arith in
    let zero : length bytes - count ≡ 0 = omega arith in
    canonical-pieces bytes some
    ∙ subst (λ n. completed bytes [] 0 0 ≡ completed bytes text n n) behind (long_turn bytes [] 0 0 count some (e ∙ sym (ap (front (get_or bytes 0 0)) (tail_is bytes 0))) long)
    ∙ last_turn bytes text count count (omega arith) (omega arith)
    ∙ ap (λ n. with_plain text (take n (drop count bytes))) zero
