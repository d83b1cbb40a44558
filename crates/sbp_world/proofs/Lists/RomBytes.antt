-- The bytes of the target's ROM: 54h stands there once, and behind it 00, 40 and 00. So four bytes from any place of it on are no other quadlet with that first byte.
use Rattle.sbp_world.proofs.Words.Std.{arith, ◌≡◌, ◌∙◌, refl, sym, ap, ℕ, zero, suc, ◌+◌, ◌*◌, ◌%◌, ◌^◌, ◌<◌, ◌≤◌, ◌==◌, nat_lt, ◌&&◌, ◌||◌, not, Bool, true, false, List, [], ◌∷◌, take, drop, nat_tests, quad}
use Rattle.sbp_world.proofs.Words.Target.{made, low_bits, sum_of, target_eui}
use Rattle.sbp_world.proofs.Words.Initiator.{quad_bytes}
use Rattle.sbp_world.proofs.Lists.RomKeys.{IsRomQuad, none_keyed}
use Rattle.sbp_world.proofs.Common.{untrue}

-- what is given as a quadlet
abbrev pub IsGiven : List ℕ → Type 0
IsGiven given = IsRomQuad (quad given 0 % 2 ^ 32)

pub none_given : IsGiven []
none_given = none_keyed

-- ---- bytes

abbrev follows : List ℕ → Bool
follows (a ∷ b ∷ c ∷ rest) = (a == 0) && ((b == 0x40) && (c == 0))
follows _ = false

abbrev pub is_keyed : List ℕ → Bool
is_keyed [] = true
is_keyed (x ∷ xs) = nat_lt x 256 && ((not (x == 0x54) || follows xs) && is_keyed xs)

record Keyed (x : ℕ) (xs : List ℕ) : Type 0 where
  small : x < 256
  key : x ≡ 0x54 → follows xs ≡ true
  rest : is_keyed xs ≡ true

keyed : (x : ℕ) (xs : List ℕ) → is_keyed (x ∷ xs) ≡ true → Keyed x xs
keyed x xs e = by (nat_lt x 256) (x == 0x54) (follows xs) (is_keyed xs) refl refl refl refl e
  where
    by : (a b c d : Bool) → nat_lt x 256 ≡ a → (x == 0x54) ≡ b → follows xs ≡ c → is_keyed xs ≡ d → (a && ((not b || c) && d)) ≡ true → Keyed x xs
    by false b c d p q r s e = untrue e
    by true true false d p q r s e = untrue e
    by true true true false p q r s e = untrue e
    by true true true true p q r s e = record { small = grind (arith, nat_tests); key = λ z. r; rest = s }
    by true false c false p q r s e = untrue e
    by true false c true p q r s e = record { small = grind (arith, nat_tests); key = λ z. untrue (sym q ∙ ap (λ n. n == 0x54) z); rest = s }

record Followed (a b c : ℕ) : Type 0 where
  first : a ≡ 0
  second : b ≡ 0x40
  third : c ≡ 0

followed : (a b c : ℕ) (rest : List ℕ) → follows (a ∷ b ∷ c ∷ rest) ≡ true → Followed a b c
followed a b c rest e = by (a == 0) (b == 0x40) (c == 0) refl refl refl e
  where
    by : (p q r : Bool) → (a == 0) ≡ p → (b == 0x40) ≡ q → (c == 0) ≡ r → (p && (q && r)) ≡ true → Followed a b c
    by true true true x y z e = record { first = grind (arith, nat_tests); second = grind (arith, nat_tests); third = grind (arith, nat_tests) }
    by false q r x y z e = untrue e
    by true false r x y z e = untrue e
    by true true false x y z e = untrue e

-- the first byte of four
first_is : (a b c d : ℕ) → a < 256 → b < 256 → c < 256 → d < 256 → (a ≡ 0x54 → Followed b c d) → IsRomQuad ((a * 256 ^ 3 + (b * 256 ^ 2 + (c * 256 ^ 1 + (d * 256 ^ 0 + 0)))) % 2 ^ 32)
first_is a b c d p q r s f e =
    let key : a ≡ 0x54 = omega (arith, p, q, r, s, e) in
    let k = f key in
    let x = k.first in
    let y = k.second in
    let z = k.third in
    omega (arith, p, q, r, s, key, x, y, z)

first_given : (xs : List ℕ) → is_keyed xs ≡ true → IsGiven (take 4 xs)
first_given [] e = none_keyed
first_given (a ∷ []) e =
    let k = keyed a [] e in first_is a 0 0 0 k.small (omega arith) (omega arith) (omega arith) (λ z. untrue (k.key z))
first_given (a ∷ b ∷ []) e =
    let k = keyed a (b ∷ []) e in
    let l = keyed b [] k.rest in
    first_is a b 0 0 k.small l.small (omega arith) (omega arith) (λ z. untrue (k.key z))
first_given (a ∷ b ∷ c ∷ []) e =
    let k = keyed a (b ∷ c ∷ []) e in
    let l = keyed b (c ∷ []) k.rest in
    let m = keyed c [] l.rest in
    first_is a b c 0 k.small l.small m.small (omega arith) (λ z. untrue (k.key z))
first_given (a ∷ b ∷ c ∷ d ∷ rest) e =
    let k = keyed a (b ∷ c ∷ d ∷ rest) e in
    let l = keyed b (c ∷ d ∷ rest) k.rest in
    let m = keyed c (d ∷ rest) l.rest in
    let n = keyed d rest m.rest in
    first_is a b c d k.small l.small m.small n.small (λ z. followed b c d rest (k.key z))

drop_keyed : (at : ℕ) (xs : List ℕ) → is_keyed xs ≡ true → is_keyed (drop at xs) ≡ true
drop_keyed zero [] e = e
drop_keyed (suc at) [] e = e
drop_keyed zero (x ∷ xs) e = e
drop_keyed (suc at) (x ∷ xs) e = drop_keyed at xs (keyed x xs e).rest

-- ---- those of the ROM

pub rom_keyed : (units : ℕ) → 0 < units → units ≤ 4 → is_keyed (quad_bytes (made target_eui units)) ≡ true
unfolding made sum_of low_bits
rom_keyed zero a b = absurd (omega (arith, a))
rom_keyed (suc zero) a b = refl
rom_keyed (suc (suc zero)) a b = refl
rom_keyed (suc (suc (suc zero))) a b = refl
rom_keyed (suc (suc (suc (suc zero)))) a b = refl
rom_keyed (suc (suc (suc (suc (suc units))))) a b = absurd (omega (arith, b))

-- four bytes of it
abbrev pub IsRom : List ℕ → Type 0
IsRom rom = (at : ℕ) → IsGiven (take 4 (drop at rom))

pub is_rom : (units : ℕ) → 0 < units → units ≤ 4 → IsRom (quad_bytes (made target_eui units))
is_rom units a b at = let rom = quad_bytes (made target_eui units) in first_given (drop at rom) (drop_keyed at rom (rom_keyed units a b))
