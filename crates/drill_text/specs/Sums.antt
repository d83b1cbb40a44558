-- The sum (IEEE 1212, "CRC calculation") over bytes that are taken as quadlets, and over the lines of a journal.
use Rattle.std.specs.Prelude.{ℕ, ◌+◌, ◌*◌, ◌^◌, ◌==◌, if◌then◌else◌, List, [], ◌∷◌}
use Rattle.config_rom.specs.Sum.{sum_of}

-- the quadlet of four bytes, the most significant one first
abbrev pub quadlet : ℕ → ℕ → ℕ → ℕ → ℕ
quadlet a b c d = (a * 256 + b) * 2 ^ 16 + (c * 256 + d)

-- bytes as quadlets, with zero bytes added up to a whole one
abbrev pub quads_of : List ℕ → List ℕ
quads_of [] = []
quads_of (a ∷ []) = quadlet a 0 0 0 ∷ []
quads_of (a ∷ b ∷ []) = quadlet a b 0 0 ∷ []
quads_of (a ∷ b ∷ c ∷ []) = quadlet a b c 0 ∷ []
quads_of (a ∷ b ∷ c ∷ d ∷ bytes) = quadlet a b c d ∷ quads_of bytes

-- the sum over bytes
abbrev pub sum_of_bytes : List ℕ → ℕ
sum_of_bytes bytes = sum_of (quads_of bytes)

-- The sum goes on over a line, with its line feed: it is that of the quadlet that it was before, and of the line's quadlets behind.
unfoldable pub behind_line : ℕ → List ℕ → ℕ
behind_line before line = sum_of (before ∷ quads_of line)

-- so it goes on over lines
abbrev pub behind_lines : ℕ → List (List ℕ) → ℕ
behind_lines before [] = before
behind_lines before (line ∷ lines) = behind_lines (behind_line before line) lines

-- the lines of a text, each with its line feed
abbrev pub onto_lines : ℕ → List (List ℕ) → List (List ℕ)
onto_lines byte [] = (byte ∷ []) ∷ []
onto_lines byte (line ∷ lines) = if byte == 10 then (byte ∷ []) ∷ line ∷ lines else (byte ∷ line) ∷ lines

abbrev pub lines_of : List ℕ → List (List ℕ)
lines_of [] = []
lines_of (byte ∷ bytes) = onto_lines byte (lines_of bytes)

-- the sum over a text, line by line
abbrev pub trace : List ℕ → ℕ
trace text = behind_lines 0 (lines_of text)
