-- A sum goes on two bytes at a time, by the sums over each two bytes.
use Rattle.std.proofs.Common.{◌≡◌, ◌∙◌, refl, sym, ap, subst, below_more, ℕ, zero, suc, ◌+◌, ◌-◌, ◌*◌, ◌/◌, ◌%◌, ◌^◌, ◌<◌, ◌≤◌, ◌==◌, true, false, cond, bit_xor, List, [], ◌∷◌, ◌++◌, length, get_or, append-nil, arith}
use Rattle.std.specs.Int.{bit_at}
use Rattle.std.specs.Int.Bits.{xor_assoc, xor_zero_l, xor_zero_r, xor_self}
use Rattle.std.proofs.lemmas.Nat.{xor_lt, xor_shr, xor_mod, xor_block, xor_comm, pow-add, pow_pos, mod-pow-add, mod_below, mul-add-lt, div-mul-add, mod-mul-add}
use Rattle.std.proofs.lemmas.List.{get_or_append_left, get_or_push}
use Rattle.std.proofs.lemmas.Nat.Bits.{bit_at-lt, bit_at-zero, bit_at_cat_low, bit_at_cat_high}
use Rattle.std.proofs.Math.Nat.{pow-suc}
use Rattle.config_rom.specs.Sum.{low_bits, place_polynomial, shifted, register_after, sum_of, sum_of_bits}
use Rattle.config_rom.proofs.Sums.{register-sum, register-append}

-- ---- one bit

-- doubling distributes over the exclusive or
doubled-xor : (r s : ℕ) → bit_xor r s * 2 % 2 ^ 16 ≡ bit_xor (r * 2 % 2 ^ 16) (s * 2 % 2 ^ 16)
doubled-xor r s =
    let twice : bit_xor (r * 2 ^ 1 + 0) (s * 2 ^ 1 + 0) ≡ bit_xor r s * 2 ^ 1 + 0 = xor_block 1 r s 0 0 (omega arith) (omega arith) in
    let left : bit_xor (r * 2) (s * 2) ≡ bit_xor r s * 2 = (let a : r * 2 ≡ r * 2 ^ 1 + 0 = omega arith in let b : s * 2 ≡ s * 2 ^ 1 + 0 = omega arith in rw (a, b, twice) (omega arith)) in
    ap (λ n. n % 2 ^ 16) (sym left) ∙ xor_mod (r * 2) (s * 2) 16

xor-last : (a b c : ℕ) → bit_xor (bit_xor a b) c ≡ bit_xor (bit_xor a c) b
xor-last a b c = xor_assoc a b c ∙ ap (λ n. bit_xor a n) (xor_comm b c) ∙ sym (xor_assoc a c b)

-- a high bit of what is shifted is as good as the next bit
by-tops : (s d b x y : ℕ) → s < 2 → d < 2 → b < 2
    → cond (bit_xor s d == b) (bit_xor x y) (bit_xor (bit_xor x y) 0x1021) ≡ bit_xor (cond (s == bit_xor d b) x (bit_xor x 0x1021)) y
by-tops zero zero zero x y h k l = refl
by-tops zero zero (suc zero) x y h k l = xor-last x y 0x1021
by-tops zero (suc zero) zero x y h k l = xor-last x y 0x1021
by-tops zero (suc zero) (suc zero) x y h k l = refl
by-tops (suc zero) zero zero x y h k l = xor-last x y 0x1021
by-tops (suc zero) zero (suc zero) x y h k l = refl
by-tops (suc zero) (suc zero) zero x y h k l = refl
by-tops (suc zero) (suc zero) (suc zero) x y h k l = xor-last x y 0x1021
by-tops (suc (suc s)) d b x y h k l = absurd (omega arith)
by-tops s (suc (suc d)) b x y h k l = absurd (omega arith)
by-tops s d (suc (suc b)) x y h k l = absurd (omega arith)

moves : (s d b : ℕ) → s < 2 ^ 16 → d < 2 ^ 16 → b < 2 → shifted (bit_xor s d) b ≡ bit_xor (shifted s (bit_xor (d / 2 ^ 15) b)) (d * 2 % 2 ^ 16)
unfolding shifted
moves s d b h k l =
    ap (λ n. cond (bit_xor s d / 2 ^ 15 == b) n (bit_xor n 0x1021)) (doubled-xor s d)
    ∙ ap (λ n. cond (n == b) (bit_xor (s * 2 % 2 ^ 16) (d * 2 % 2 ^ 16)) (bit_xor (bit_xor (s * 2 % 2 ^ 16) (d * 2 % 2 ^ 16)) 0x1021)) (xor_shr s d 15)
    ∙ by-tops (s / 2 ^ 15) (d / 2 ^ 15) b (s * 2 % 2 ^ 16) (d * 2 % 2 ^ 16) (omega arith) (omega arith) l

pub shifted_lt : (r b : ℕ) → shifted r b < 2 ^ 16
unfolding shifted
shifted_lt r b =
    elim (r / 2 ^ 15 == b) as (λ t. cond t (r * 2 % 2 ^ 16) (bit_xor (r * 2 % 2 ^ 16) 0x1021) < 2 ^ 16) [
      | true ↦ omega arith
      | false ↦ xor_lt 16 (r * 2 % 2 ^ 16) 0x1021 (omega arith) (omega arith)
    ]

-- ---- the low bits of a number, moved to the top of a register

tops-by : (p t b low q : ℕ) → p * t ≡ 2 ^ 15 → b < 2 → low < p → 0 < t → q ≡ b * p + low → (q * t / 2 ^ 15 ≡ b) × (q * t * 2 % 2 ^ 16 ≡ low * (t * 2)) × (q * t < 2 ^ 16)
tops-by p t b low q whole few small some e =
    let bound : low * t + 0 < t * p = mul-add-lt low t 0 p small some in
    let less : low * t < 2 ^ 15 = omega arith in
    let parts : (b * p + low) * t ≡ b * (p * t) + low * t = omega arith in
    let at : q * t ≡ b * 2 ^ 15 + low * t = ap (λ n. n * t) e ∙ parts ∙ ap (λ n. b * n + low * t) whole in
    let twice : (b * 2 ^ 15 + low * t) * 2 ≡ b * 2 ^ 16 + low * (t * 2) = omega arith in
    let small_twice : low * (t * 2) < 2 ^ 16 = omega arith in (
      ap (λ n. n / 2 ^ 15) at ∙ div-mul-add b (2 ^ 15) (low * t) less,
      ap (λ n. n * 2 % 2 ^ 16) at ∙ ap (λ n. n % 2 ^ 16) twice ∙ mod-mul-add b (2 ^ 16) (low * (t * 2)) small_twice,
      omega arith,
    )

-- The low bits of r, moved to the top: the highest of them is that of the register, and the others follow.
record Tops (n m r : ℕ) : Type 0 where
  top : r % 2 ^ suc n * 2 ^ m / 2 ^ 15 ≡ bit_at r n
  next : r % 2 ^ suc n * 2 ^ m * 2 % 2 ^ 16 ≡ r % 2 ^ n * 2 ^ suc m
  below : r % 2 ^ suc n * 2 ^ m < 2 ^ 16

tops : (n m r : ℕ) → suc n + m ≡ 16 → Tops n m r
tops n m r e =
    let fifteen : n + m ≡ 15 = omega arith in
    let whole : 2 ^ n * 2 ^ m ≡ 2 ^ 15 = sym (pow-add 2 n m) ∙ ap (λ k. 2 ^ k) fifteen in
    let longer : suc n ≡ 1 + n = omega arith in
    let split : r % 2 ^ suc n ≡ bit_at r n * 2 ^ n + r % 2 ^ n = ap (λ k. r % 2 ^ k) longer ∙ mod-pow-add r 1 n in
    let t = tops-by (2 ^ n) (2 ^ m) (bit_at r n) (r % 2 ^ n) (r % 2 ^ suc n) whole (bit_at-lt r n) (mod_below r (2 ^ n) (pow_pos n)) (pow_pos m) split in
    record { top = t.0; next = t.1 ∙ ap (λ k. r % 2 ^ n * k) (sym (pow-suc 2 m)); below = t.2 }

bits-xor : (r w n : ℕ) → bit_xor (bit_at r n) (bit_at w n) ≡ bit_at (bit_xor r w) n
bits-xor r w n = sym (ap (λ k. k % 2 ^ 1) (xor_shr r w n) ∙ xor_mod (r / 2 ^ n) (w / 2 ^ n) 1)

-- bits at the top of a register are as good as bits to come
goes : (n m s r w : ℕ) → n + m ≡ 16 → s < 2 ^ 16 → register_after (bit_xor s (r % 2 ^ n * 2 ^ m)) (low_bits n w) ≡ register_after s (low_bits n (bit_xor r w))
unfolding low_bits
goes zero m s r w e h =
    let none : r % 2 ^ zero * 2 ^ m ≡ 0 = (let one : r % 1 ≡ 0 = omega arith in ap (λ k. k * 2 ^ m) one ∙ omega arith) in
    ap (λ k. bit_xor s k) none ∙ xor_zero_r s
goes (suc n) m s r w e h =
    let t = tops n m r e in
    let top : bit_xor (r % 2 ^ suc n * 2 ^ m / 2 ^ 15) (bit_at w n) ≡ bit_at (bit_xor r w) n = ap (λ k. bit_xor k (bit_at w n)) t.top ∙ bits-xor r w n in
    ap (λ k. register_after k (low_bits n w)) (moves s (r % 2 ^ suc n * 2 ^ m) (bit_at w n) h t.below (bit_at-lt w n) ∙ ap (λ b. bit_xor (shifted s b) (r % 2 ^ suc n * 2 ^ m * 2 % 2 ^ 16)) top ∙ ap (λ k. bit_xor (shifted s (bit_at (bit_xor r w) n)) k) t.next)
    ∙ goes n (suc m) (shifted s (bit_at (bit_xor r w) n)) r w (omega arith) (shifted_lt s (bit_at (bit_xor r w) n))

-- ---- two bytes

pub pair-moves : (r w : ℕ) → r < 2 ^ 16 → register_after r (low_bits 16 w) ≡ register_after 0 (low_bits 16 (bit_xor r w))
pair-moves r w h =
    let whole : r % 2 ^ 16 * 2 ^ 0 ≡ r = omega arith in
    ap (λ k. register_after k (low_bits 16 w)) (sym (xor_zero_l r) ∙ ap (λ k. bit_xor 0 k) (sym whole)) ∙ goes 16 0 0 r w refl (omega arith)

-- the low bits are those of the low part
lows : (n hi lo : ℕ) → n ≤ 16 → low_bits n (hi * 2 ^ 16 + lo) ≡ low_bits n lo
unfolding low_bits
lows zero hi lo h = refl
lows (suc n) hi lo h =
    let below : n < 16 = omega arith in
    ap (λ b. b ∷ low_bits n (hi * 2 ^ 16 + lo)) (bit_at_cat_low hi 16 lo n below) ∙ ap (λ bs. bit_at lo n ∷ bs) (lows n hi lo (omega arith))

-- and the others before them those of the high part
highs : (n k hi lo : ℕ) → n ≡ k + 16 → lo < 2 ^ 16 → low_bits n (hi * 2 ^ 16 + lo) ≡ low_bits k hi ++ low_bits 16 lo
unfolding low_bits
highs n zero hi lo e h =
    let sixteen : n ≡ 16 = omega arith in
    ap (λ j. low_bits j (hi * 2 ^ 16 + lo)) sixteen ∙ lows 16 hi lo (omega arith)
highs zero (suc k) hi lo e h = absurd (omega arith)
highs (suc n) (suc k) hi lo e h =
    let above : 16 ≤ n = omega arith in
    let place : n - 16 ≡ k = omega arith in
    ap (λ b. b ∷ low_bits n (hi * 2 ^ 16 + lo)) (bit_at_cat_high hi 16 lo n h above ∙ ap (λ j. bit_at hi j) place) ∙ ap (λ bs. bit_at hi k ∷ bs) (highs n k hi lo (omega arith) h)

zeros : (n : ℕ) → register_after 0 (low_bits n 0) ≡ 0
unfolding low_bits shifted
zeros zero = refl
zeros (suc n) = ap (λ b. register_after (shifted 0 b) (low_bits n 0)) (bit_at-zero n) ∙ zeros n

-- the quadlet of two bytes
pub one-pair : (w : ℕ) → w < 2 ^ 16 → sum_of (w ∷ []) ≡ register_after 0 (low_bits 16 w)
one-pair w h =
    let whole : w ≡ 0 * 2 ^ 16 + w = omega arith in
    let bits : low_bits 32 w ≡ low_bits 16 0 ++ low_bits 16 w = ap (λ k. low_bits 32 k) whole ∙ highs 32 16 0 w refl h in
    sym (register-sum (w ∷ []))
    ∙ ap (λ bs. register_after 0 bs) (append-nil (low_bits 32 w) ∙ bits)
    ∙ register-append 0 (low_bits 16 0) (low_bits 16 w)
    ∙ ap (λ k. register_after k (low_bits 16 w)) (zeros 16)

-- a sum goes on by the table
pub pair-step : (sums : List ℕ) (s w : ℕ) → ((pair : ℕ) → pair < 65536 → get_or sums pair 0 ≡ sum_of (pair ∷ [])) → s < 2 ^ 16 → w < 2 ^ 16 → get_or sums (bit_xor s w) 0 ≡ register_after s (low_bits 16 w)
pair-step sums s w each h k =
    let below = xor_lt 16 s w h k in
    each (bit_xor s w) below ∙ one-pair (bit_xor s w) below ∙ sym (pair-moves s w h)

-- a quadlet is two pairs
pub quad-steps : (s half hi lo : ℕ) → lo < 2 ^ 16 → half ≡ register_after s (low_bits 16 hi) → register_after half (low_bits 16 lo) ≡ register_after s (low_bits 32 (hi * 2 ^ 16 + lo))
quad-steps s half hi lo h e =
    ap (λ k. register_after k (low_bits 16 lo)) e
    ∙ sym (register-append s (low_bits 16 hi) (low_bits 16 lo))
    ∙ sym (ap (λ bs. register_after s bs) (highs 32 16 hi lo refl h))

-- ---- the table is made

low-length : (n v : ℕ) → length (low_bits n v) ≡ n
unfolding low_bits
low-length zero v = refl
low-length (suc n) v = ap suc (low-length n v)

chosen-xor : (a b p : ℕ) → a < 2 → b < 2 → cond (bit_xor a b == 1) p 0 ≡ bit_xor (cond (a == 1) p 0) (cond (b == 1) p 0)
chosen-xor zero zero p h k = refl
chosen-xor zero (suc zero) p h k = sym (xor_zero_l p)
chosen-xor (suc zero) zero p h k = sym (xor_zero_r p)
chosen-xor (suc zero) (suc zero) p h k = sym (xor_self p)
chosen-xor (suc (suc a)) b p h k = absurd (omega arith)
chosen-xor a (suc (suc b)) p h k = absurd (omega arith)

xor-pairs : (a b c d : ℕ) → bit_xor (bit_xor a b) (bit_xor c d) ≡ bit_xor (bit_xor a c) (bit_xor b d)
xor-pairs a b c d = sym (xor_assoc (bit_xor a b) c d) ∙ ap (λ n. bit_xor n d) (xor-last a b c) ∙ xor_assoc (bit_xor a c) b d

-- what one bit adds, of the low bits of a number
abbrev adds : ℕ → ℕ → ℕ
adds n v = cond (bit_at v n == 1) (place_polynomial n) 0

sum-next : (n v : ℕ) → sum_of_bits (low_bits (suc n) v) ≡ bit_xor (adds n v) (sum_of_bits (low_bits n v))
unfolding low_bits
sum-next n v = ap (λ k. bit_xor (cond (bit_at v n == 1) (place_polynomial k) 0) (sum_of_bits (low_bits n v))) (low-length n v)

bits-sum-xor : (n a b : ℕ) → sum_of_bits (low_bits n (bit_xor a b)) ≡ bit_xor (sum_of_bits (low_bits n a)) (sum_of_bits (low_bits n b))
unfolding low_bits
bits-sum-xor zero a b = refl
bits-sum-xor (suc n) a b =
    sum-next n (bit_xor a b)
    ∙ ap (λ k. bit_xor (cond (k == 1) (place_polynomial n) 0) (sum_of_bits (low_bits n (bit_xor a b)))) (sym (bits-xor a b n))
    ∙ ap (λ k. bit_xor k (sum_of_bits (low_bits n (bit_xor a b)))) (chosen-xor (bit_at a n) (bit_at b n) (place_polynomial n) (bit_at-lt a n) (bit_at-lt b n))
    ∙ ap (λ k. bit_xor (bit_xor (adds n a) (adds n b)) k) (bits-sum-xor n a b)
    ∙ xor-pairs (adds n a) (adds n b) (sum_of_bits (low_bits n a)) (sum_of_bits (low_bits n b))
    ∙ ap (λ k. bit_xor k (bit_xor (adds n b) (sum_of_bits (low_bits n b)))) (sym (sum-next n a))
    ∙ ap (λ k. bit_xor (sum_of_bits (low_bits (suc n) a)) k) (sym (sum-next n b))

sum-one : (v : ℕ) → sum_of (v ∷ []) ≡ sum_of_bits (low_bits 32 v)
unfolding sum_of
sum-one v = ap sum_of_bits (append-nil (low_bits 32 v))

-- the sum over two bytes is that of the first and that of the second
pub pair-sum : (high low : ℕ) → low < 256 → sum_of ((high * 256 + low) ∷ []) ≡ bit_xor (sum_of ((high * 256) ∷ [])) (sum_of (low ∷ []))
pair-sum high low h =
    let block : bit_xor (high * 2 ^ 8 + 0) (0 * 2 ^ 8 + low) ≡ bit_xor high 0 * 2 ^ 8 + bit_xor 0 low = xor_block 8 high 0 0 low (omega arith) h in
    let first : high * 2 ^ 8 + 0 ≡ high * 256 = omega arith in
    let second : 0 * 2 ^ 8 + low ≡ low = omega arith in
    let joined : bit_xor high 0 * 2 ^ 8 + bit_xor 0 low ≡ high * 256 + low = ap (λ k. k * 2 ^ 8 + bit_xor 0 low) (xor_zero_r high) ∙ ap (λ k. high * 2 ^ 8 + k) (xor_zero_l low) in
    let whole : high * 256 + low ≡ bit_xor (high * 256) low = sym (ap (λ k. bit_xor k low) (sym first) ∙ ap (λ k. bit_xor (high * 2 ^ 8 + 0) k) (sym second) ∙ block ∙ joined) in
    sum-one (high * 256 + low)
    ∙ ap (λ k. sum_of_bits (low_bits 32 k)) whole
    ∙ bits-sum-xor 32 (high * 256) low
    ∙ ap (λ k. bit_xor k (sum_of_bits (low_bits 32 low))) (sym (sum-one (high * 256)))
    ∙ ap (λ k. bit_xor (sum_of ((high * 256) ∷ [])) k) (sym (sum-one low))

pub more-each : (sums : List ℕ) (n x : ℕ) → length sums ≡ n → ((pair : ℕ) → pair < n → get_or sums pair 0 ≡ sum_of (pair ∷ [])) → x ≡ sum_of (n ∷ []) → (pair : ℕ) → pair < n + 1 → get_or (sums ++ x ∷ []) pair 0 ≡ sum_of (pair ∷ [])
more-each sums n x e each h =
    below_more (λ pair. get_or (sums ++ x ∷ []) pair 0 ≡ sum_of (pair ∷ [])) n (λ pair k. get_or_append_left sums (x ∷ []) 0 pair (subst (λ m. pair < m) (sym e) k) ∙ each pair k) (get_or_push sums x 0 n e ∙ h)
