-- The shifted register holds the sum of the bits so far.
use Rattle.std.proofs.Common.{◌≡◌, ◌∙◌, refl, sym, ap, ℕ, zero, suc, ◌+◌, ◌*◌, ◌/◌, ◌%◌, ◌^◌, ◌<◌, ◌==◌, Bool, true, false, cond, bit_xor, List, [], ◌∷◌, ◌++◌, length, append_assoc, append-nil, get_or, drop, arith}
use Rattle.std.specs.Int.{bit_at}
use Rattle.std.proofs.lemmas.Nat.{xor_lt, xor_shr, xor_mod, xor_block, xor_comm}
use Rattle.std.specs.Int.Bits.{xor_assoc, xor_zero_r}
use Rattle.config_rom.specs.Sum.{doubled, place_polynomial, sum_of_bits, low_bits, quad_bits, sum_of, shifted, register_after}

abbrev pub AreBits : List ℕ → Type 0
AreBits [] = Unit {0}
AreBits (bit ∷ bits) = (bit < 2) × AreBits bits

reduced_lt : (b : Bool) (n : ℕ) → bit_xor (n % 2 ^ 16) (cond b 0x1021 0) < 2 ^ 16
reduced_lt true n = xor_lt 16 (n % 2 ^ 16) 0x1021 (omega arith) (omega arith)
reduced_lt false n = xor_lt 16 (n % 2 ^ 16) 0 (omega arith) (omega arith)

pub polynomial_lt : (j : ℕ) → place_polynomial j < 2 ^ 16
polynomial_lt zero = omega arith
polynomial_lt (suc j) = reduced_lt (bit_at (place_polynomial j) 15 == 1) (2 * place_polynomial j)

chosen_lt : (b : Bool) (n : ℕ) → n < 2 ^ 16 → cond b n 0 < 2 ^ 16
chosen_lt true n h = h
chosen_lt false n h = omega arith

pub sum_lt : (bits : List ℕ) → sum_of_bits bits < 2 ^ 16
sum_lt [] = omega arith
sum_lt (bit ∷ bits) = xor_lt 16 _ _ (chosen_lt (bit == 1) _ (polynomial_lt (length bits))) (sum_lt bits)

-- doubling distributes over the exclusive or
doubled-xor : (r s : ℕ) → bit_xor r s * 2 % 2 ^ 16 ≡ bit_xor (2 * r % 2 ^ 16) (s * 2 % 2 ^ 16)
doubled-xor r s =
    let twice : bit_xor (r * 2 ^ 1 + 0) (s * 2 ^ 1 + 0) ≡ bit_xor r s * 2 ^ 1 + 0 = xor_block 1 r s 0 0 (omega arith) (omega arith) in
    let left : bit_xor (2 * r) (s * 2) ≡ bit_xor r s * 2 = (let a : 2 * r ≡ r * 2 ^ 1 + 0 = omega arith in let b : s * 2 ≡ s * 2 ^ 1 + 0 = omega arith in rw (a, b, twice) (omega arith)) in
    ap (λ n. n % 2 ^ 16) (sym left) ∙ xor_mod (2 * r) (s * 2) 16

-- the order of exclusive ors is free
xor-pairs : (a b c d : ℕ) → bit_xor (bit_xor a b) (bit_xor c d) ≡ bit_xor (bit_xor a c) (bit_xor b d)
xor-pairs a b c d =
    xor_assoc a b (bit_xor c d)
    ∙ ap (λ n. bit_xor a n) (sym (xor_assoc b c d) ∙ ap (λ n. bit_xor n d) (xor_comm b c) ∙ xor_assoc c b d)
    ∙ sym (xor_assoc a c (bit_xor b d))

-- what the reduction adds at the high bits r and s, and the new bit b
abbrev reduces : ℕ → ℕ
reduces bit = cond (bit == 1) 0x1021 0

shifts-by : (high bit low : ℕ) → high < 2 → bit < 2 → cond (high == bit) low (bit_xor low 0x1021) ≡ bit_xor low (reduces (bit_xor high bit))
shifts-by zero zero low h k = sym (xor_zero_r low)
shifts-by zero (suc zero) low h k = refl
shifts-by (suc zero) zero low h k = refl
shifts-by (suc zero) (suc zero) low h k = sym (xor_zero_r low)
shifts-by high (suc (suc bit)) low h k = absurd (omega arith)
shifts-by (suc (suc high)) bit low h k = absurd (omega arith)

shifted-is : (register bit : ℕ) → register < 2 ^ 16 → bit < 2 → shifted register bit ≡ bit_xor (register * 2 % 2 ^ 16) (reduces (bit_xor (register / 2 ^ 15) bit))
unfolding shifted
shifted-is register bit h k = shifts-by (register / 2 ^ 15) bit (register * 2 % 2 ^ 16) (omega arith) k

reduces-xor : (r s : ℕ) → r < 2 → s < 2 → reduces (bit_xor r s) ≡ bit_xor (reduces r) (reduces s)
reduces-xor zero zero h k = refl
reduces-xor zero (suc zero) h k = refl
reduces-xor (suc zero) zero h k = refl
reduces-xor (suc zero) (suc zero) h k = refl
reduces-xor r (suc (suc s)) h k = absurd (omega arith)
reduces-xor (suc (suc r)) s h k = absurd (omega arith)

xor_below_two : (r s : ℕ) → r < 2 → s < 2 → bit_xor r s < 2
xor_below_two r s h k = xor_lt 1 r s h k

-- shifting is linear
shifted-xor : (r s bit : ℕ) → r < 2 ^ 16 → s < 2 ^ 16 → bit < 2 → shifted (bit_xor r s) bit ≡ bit_xor (doubled r) (shifted s bit)
shifted-xor r s bit h k l =
    let rh : r / 2 ^ 15 < 2 = omega arith in
    let sh : s / 2 ^ 15 < 2 = omega arith in
    let top : r / 2 ^ 15 % 2 ≡ r / 2 ^ 15 = omega arith in
    shifted-is (bit_xor r s) bit (xor_lt 16 r s h k) l
    ∙ ap (λ n. bit_xor n (reduces (bit_xor (bit_xor r s / 2 ^ 15) bit))) (doubled-xor r s)
    ∙ ap (λ n. bit_xor (bit_xor (2 * r % 2 ^ 16) (s * 2 % 2 ^ 16)) (reduces n)) (ap (λ n. bit_xor n bit) (xor_shr r s 15) ∙ xor_assoc (r / 2 ^ 15) (s / 2 ^ 15) bit)
    ∙ ap (λ n. bit_xor (bit_xor (2 * r % 2 ^ 16) (s * 2 % 2 ^ 16)) n) (reduces-xor (r / 2 ^ 15) (bit_xor (s / 2 ^ 15) bit) rh (xor_below_two (s / 2 ^ 15) bit sh l))
    ∙ xor-pairs (2 * r % 2 ^ 16) (s * 2 % 2 ^ 16) (reduces (r / 2 ^ 15)) (reduces (bit_xor (s / 2 ^ 15) bit))
    ∙ ap (λ n. bit_xor (bit_xor (2 * r % 2 ^ 16) (reduces n)) (bit_xor (s * 2 % 2 ^ 16) (reduces (bit_xor (s / 2 ^ 15) bit)))) (sym top)
    ∙ ap (λ n. bit_xor (doubled r) n) (sym (shifted-is s bit k l))

doubled-chosen : (b : Bool) (n : ℕ) → doubled (cond b n 0) ≡ cond b (doubled n) 0
doubled-chosen true n = refl
doubled-chosen false n = refl

one_bit : (bit : ℕ) → bit < 2 → shifted 0 bit ≡ sum_of_bits (bit ∷ [])
unfolding shifted
one_bit zero h = refl
one_bit (suc zero) h = refl
one_bit (suc (suc bit)) h = absurd (omega arith)

one_longer : (bits : List ℕ) (bit : ℕ) → length (bits ++ bit ∷ []) ≡ suc (length bits)
one_longer [] bit = refl
one_longer (x ∷ bits) bit = ap suc (one_longer bits bit)

-- one more bit shifts the sum
sum-push : (bits : List ℕ) (bit : ℕ) → bit < 2 → shifted (sum_of_bits bits) bit ≡ sum_of_bits (bits ++ bit ∷ [])
sum-push [] bit h = one_bit bit h
sum-push (x ∷ bits) bit h =
    shifted-xor (cond (x == 1) (place_polynomial (length bits)) 0) (sum_of_bits bits) bit (chosen_lt (x == 1) _ (polynomial_lt (length bits))) (sum_lt bits) h
    ∙ ap (λ n. bit_xor n (shifted (sum_of_bits bits) bit)) (doubled-chosen (x == 1) (place_polynomial (length bits)))
    ∙ ap (λ n. bit_xor (cond (x == 1) (doubled (place_polynomial (length bits))) 0) n) (sum-push bits bit h)
    ∙ ap (λ n. bit_xor (cond (x == 1) (place_polynomial n) 0) (sum_of_bits (bits ++ bit ∷ []))) (sym (one_longer bits bit))

register_from : (front bits : List ℕ) → AreBits bits → register_after (sum_of_bits front) bits ≡ sum_of_bits (front ++ bits)
register_from front [] h = ap sum_of_bits (sym (append-nil front))
register_from front (bit ∷ bits) (b, h) =
    ap (λ r. register_after r bits) (sum-push front bit b)
    ∙ register_from (front ++ bit ∷ []) bits h
    ∙ ap sum_of_bits (append_assoc front (bit ∷ []) bits)

low_bits-are : (count quad : ℕ) → AreBits (low_bits count quad)
unfolding low_bits
low_bits-are zero quad = tt
low_bits-are (suc count) quad = (omega arith, low_bits-are count quad)

are-append : (front bits : List ℕ) → AreBits front → AreBits bits → AreBits (front ++ bits)
are-append [] bits h k = k
are-append (bit ∷ front) bits (b, h) k = (b, are-append front bits h k)

quad_bits-are : (quads : List ℕ) → AreBits (quad_bits quads)
quad_bits-are [] = tt
quad_bits-are (quad ∷ quads) = are-append (low_bits 32 quad) (quad_bits quads) (low_bits-are 32 quad) (quad_bits-are quads)

-- the register behind all bits is their sum
pub register-sum : (quads : List ℕ) → register_after 0 (quad_bits quads) ≡ sum_of quads
unfolding sum_of
register-sum quads = register_from [] (quad_bits quads) (quad_bits-are quads)

pub register-append : (register : ℕ) (front bits : List ℕ) → register_after register (front ++ bits) ≡ register_after (register_after register front) bits
register-append register [] bits = refl
register-append register (bit ∷ front) bits = register-append (shifted register bit) front bits

-- the quadlet at a place is next
pub quads-next : (quads : List ℕ) (i j register next : ℕ) → j ≡ suc i → i < length quads → next ≡ register_after register (low_bits 32 (get_or quads i 0)) → register_after next (quad_bits (drop j quads)) ≡ register_after register (quad_bits (drop i quads))
quads-next [] i j register next f h e = absurd (omega arith)
quads-next (quad ∷ quads) zero j register next f h e = rw (e, f) (sym (register-append register (low_bits 32 quad) (quad_bits quads)))
quads-next (quad ∷ quads) (suc i) j register next f h e = rw f (quads-next quads i (suc i) register next refl (omega arith) e)

-- the bits of a quadlet one by one
pub low_bits-next : (n m quad register : ℕ) → n ≡ suc m → register_after register (low_bits n quad) ≡ register_after (shifted register (bit_at quad m)) (low_bits m quad)
unfolding low_bits
low_bits-next n m quad register e = rw e refl

pub low_bits-none : (n quad register : ℕ) → n ≡ 0 → register_after register (low_bits n quad) ≡ register
unfolding low_bits
low_bits-none n quad register e = rw e refl

pub ruleset sum_steps = (register-sum, register-append, low_bits-next, low_bits-none)
