-- A canonical form that grows piece by piece, as its writer makes it.
use Rattle.std.specs.Prelude.{ℕ, List, [], ◌∷◌, ◌++◌}
use Rattle.hex.specs.Hex.{encode_upper}
use Rattle.line_text.specs.Canonical.{Piece, piece_text, plus}

-- one more piece, behind a `+` where it is not the first
abbrev pub with_piece : List ℕ → List ℕ → List ℕ
with_piece [] piece = piece
with_piece (byte ∷ text) piece = (byte ∷ text) ++ plus ∷ piece

-- some bytes as digits, where there are any
abbrev pub with_plain : List ℕ → List ℕ → List ℕ
with_plain text [] = text
with_plain text (byte ∷ bytes) = with_piece text (encode_upper (byte ∷ bytes))

-- some pieces
abbrev pub with_pieces : List ℕ → List Piece → List ℕ
with_pieces text [] = text
with_pieces text (piece ∷ pieces) = with_pieces (with_piece text (piece_text piece)) pieces
