-- Bytes in the canonical form: each maximal run of four or more equal bytes is HH*N, the bytes between such runs are one
-- string of digits, and the pieces are joined by `+`. No bytes are `-`.
use Rattle.std.specs.Prelude.{◌≡◌, ◌≢◌, ◌<◌, ℕ, ◌+◌, ◌==◌, nat_le, if◌then◌else◌, List, [], ◌∷◌, ◌++◌, map, replicate}
use Rattle.std.specs.Fmt.{decimal}
use Rattle.std.specs.List.{join_with_byte, flat_map}
use Rattle.hex.specs.Hex.{encode_upper}

-- equal bytes side by side
pub record Run : Type 0 where
  pub byte : ℕ
  pub count : ℕ

-- a byte before some runs
abbrev pub onto_runs : ℕ → List Run → List Run
onto_runs byte [] = record { byte = byte; count = 1 } ∷ []
onto_runs byte (run ∷ runs) =
    if byte == run.byte then record { byte = byte; count = run.count + 1 } ∷ runs
    else record { byte = byte; count = 1 } ∷ run ∷ runs

-- the maximal runs of some bytes
abbrev pub runs_of : List ℕ → List Run
runs_of [] = []
runs_of (byte ∷ bytes) = onto_runs byte (runs_of bytes)

-- the bytes of a run
abbrev pub run_bytes : Run → List ℕ
run_bytes run = replicate run.count run.byte

-- the first run, if there is one, is of another byte
abbrev pub BeginsOtherwise : ℕ → List Run → Type 0
BeginsOtherwise byte [] = Unit {0}
BeginsOtherwise byte (run ∷ runs) = byte ≢ run.byte

-- each run has a byte, and no two runs side by side have the same one
abbrev pub AreMaximal : List Run → Type 0
AreMaximal [] = Unit {0}
AreMaximal (run ∷ runs) = (0 < run.count) × BeginsOtherwise run.byte runs × AreMaximal runs

-- The maximal runs of some bytes, of which there is one list (`maximal_runs`).
pub record AreRunsOf (bytes : List ℕ) (runs : List Run) : Type 0 where
  pub join : flat_map run_bytes runs ≡ bytes
  pub maximal : AreMaximal runs

-- a piece: some bytes as digits, or one byte and how often it stands
pub data Piece : Type 0 where
  plain : List ℕ → Piece
  repeated : ℕ → ℕ → Piece

-- a string of digits, where there are bytes for one, before other pieces
abbrev pub onto_pieces : List ℕ → List Piece → List Piece
onto_pieces [] pieces = pieces
onto_pieces (byte ∷ bytes) pieces = plain (byte ∷ bytes) ∷ pieces

-- the pieces of some runs behind bytes that stand between runs of four or more
abbrev pub pieces_of : List ℕ → List Run → List Piece
pieces_of between [] = onto_pieces between []
pieces_of between (run ∷ runs) =
    if nat_le 4 run.count then onto_pieces between (repeated run.byte run.count ∷ pieces_of [] runs)
    else pieces_of (between ++ replicate run.count run.byte) runs

-- `*` and `+`
abbrev pub star : ℕ
star = 42

abbrev pub plus : ℕ
plus = 43

abbrev pub piece_text : Piece → List ℕ
piece_text (plain bytes) = encode_upper bytes
piece_text (repeated byte count) = encode_upper (byte ∷ []) ++ star ∷ decimal count

-- the canonical form
abbrev pub canonical : List ℕ → List ℕ
canonical [] = 45 ∷ []
canonical (byte ∷ bytes) = join_with_byte plus (map piece_text (pieces_of [] (runs_of (byte ∷ bytes))))
