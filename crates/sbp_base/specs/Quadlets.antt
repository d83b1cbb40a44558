-- Quadlets: numbers of 4 bytes, the most significant byte first (IEEE 1394-1995).
use Rattle.std.specs.Prelude.{◌≡◌, ℕ, ◌+◌, ◌^◌, ◌<◌, ◌≤◌, List, ◌++◌, length, take, drop}
use Rattle.byteorder.specs.Endian.{big_number, big_bytes}

-- the quadlet at a place in bytes
abbrev pub quad : List ℕ → ℕ → ℕ
quad bytes at = big_number 4 (drop at bytes)

-- bytes with a quadlet written over the 4 at a place
abbrev pub with_quad : List ℕ → ℕ → ℕ → List ℕ
with_quad bytes at value = take at bytes ++ (big_bytes 4 value ++ drop (at + 4) bytes)

-- Reading at the place that was written gives the value.
abbrev pub ReadsBackQuadlets : Type 0
ReadsBackQuadlets = (bytes : List ℕ) (at value : ℕ) → at + 4 ≤ length bytes → value < 2 ^ 32 → quad (with_quad bytes at value) at ≡ value
