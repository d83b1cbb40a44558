-- The sum over quadlets (IEEE 1212, "CRC calculation"): the polynomial x^16 + x^12 + x^5 + 1, bits most significant first.
use Rattle.std.specs.Prelude.{ℕ, zero, suc, ◌*◌, ◌/◌, ◌%◌, ◌^◌, ◌==◌, if◌then◌else◌, bit_xor, List, [], ◌∷◌, ◌++◌, length}
use Rattle.std.specs.Int.{bit_at}

-- P_j, what a bit with j places behind it adds: P_0 is 1021h, and the next is twice the one before, reduced by the polynomial
abbrev pub doubled : ℕ → ℕ
doubled p = bit_xor (2 * p % 2 ^ 16) (if bit_at p 15 == 1 then 0x1021 else 0)

abbrev pub place_polynomial : ℕ → ℕ
place_polynomial zero = 0x1021
place_polynomial (suc j) = doubled (place_polynomial j)

-- the sum of a list of bits: the exclusive or of P_j over the bits that are 1, where j counts the places to the last bit
abbrev pub sum_of_bits : List ℕ → ℕ
sum_of_bits [] = 0
sum_of_bits (bit ∷ bits) = bit_xor (if bit == 1 then place_polynomial (length bits) else 0) (sum_of_bits bits)

-- the low `count` bits of a quadlet, most significant first
unfoldable pub low_bits : ℕ → ℕ → List ℕ
low_bits zero quad = []
low_bits (suc count) quad = bit_at quad count ∷ low_bits count quad

-- the bits of quadlets
abbrev pub quad_bits : List ℕ → List ℕ
quad_bits [] = []
quad_bits (quad ∷ quads) = low_bits 32 quad ++ quad_bits quads

-- the sum over quadlets
unfoldable pub sum_of : List ℕ → ℕ
sum_of quads = sum_of_bits (quad_bits quads)

-- ---- a register that is shifted

-- the register behind one more bit: it is reduced where its highest bit and the new one differ
unfoldable pub shifted : ℕ → ℕ → ℕ
shifted register bit = if register / 2 ^ 15 == bit then register * 2 % 2 ^ 16 else bit_xor (register * 2 % 2 ^ 16) 0x1021

abbrev pub register_after : ℕ → List ℕ → ℕ
register_after register [] = register
register_after register (bit ∷ bits) = register_after (shifted register bit) bits
