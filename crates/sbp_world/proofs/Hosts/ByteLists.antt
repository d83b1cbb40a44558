-- The bytes of data that are laid out in the segments of a buffer, and the places of their addresses.
use Rattle.sbp_world.proofs.Words.Std.{arith, ◌≡◌, refl, sym, ap, ◌∙◌, ℕ, zero, suc, ◌+◌, ◌-◌, ◌<◌, ◌≤◌, ◌==◌, ◌&&◌, nat_le, nat_lt, Bool, true, false, cond, List, [], ◌∷◌, ◌++◌, length, drop, Option, Some, None, nat_tests, position_from-zero, get_or-drop, length-drop, position_from}
use Rattle.sbp_world.proofs.Words.Wire.{Cmd}
use Rattle.sbp_world.proofs.Words.Initiator.{behind, addresses, buffer_addresses, single, start}
use Rattle.sbp_world.proofs.Words.Laws.{laid_out, placed, data_at}
use Rattle.std.proofs.Common.{position, slice_index_or}
use Rattle.bus_memory.specs.declared.window.Window.TheVariants as windows

-- a place lies in so many bytes from another one on
abbrev pub is_in : (at count j : ℕ) → Bool
is_in at count j = nat_le at j && nat_lt j (at + count)

-- the byte of data that stands at a place of a buffer, where it is laid out in segments from another place on
abbrev pub data_in : (at : ℕ) → List ℕ → List ℕ → ℕ → Option ℕ
data_in at [] payload j = None
data_in at (count ∷ rest) payload j = cond (is_in at count j) (data_at (Some (j - at)) payload) (data_in (behind at count) rest (drop count payload) j)

-- none in front of them
pub data_before : (at : ℕ) (counts payload : List ℕ) (j : ℕ) → j < at → data_in at counts payload j ≡ None
data_before at [] payload j b = refl
data_before at (count ∷ rest) payload j b =
    let away : is_in at count j ≡ false = grind (arith, nat_tests) in
    ap (λ c. cond c (data_at (Some (j - at)) payload) (data_in (behind at count) rest (drop count payload) j)) away
    ∙ data_before (behind at count) rest (drop count payload) j (omega arith)

-- ---- the place of an address

abbrev is_at : ℕ → ℕ → Bool
is_at address = λ other. other == address

-- among addresses that follow each other, or behind them
found_in : (base count i address : ℕ) (rest : List ℕ) → position_from (is_at address) i (addresses base count ++ rest) ≡ cond (is_in base count address) (Some (i + (address - base))) (position_from (is_at address) (i + count) rest)
found_in base zero i address rest =
    let away : is_in base 0 address ≡ false = grind (arith, nat_tests) in
    ap (λ n. position_from (is_at address) n rest) (let e : i ≡ i + 0 = omega arith in e)
    ∙ sym (ap (λ c. cond c (Some (i + (address - base))) (position_from (is_at address) (i + 0) rest)) away)
found_in base (suc count) i address rest = by_here (found_in (base + 1) count (i + 1) address rest) (base == address) refl
  where
    by_inside : (base == address) ≡ false → (c : Bool) → is_in base (suc count) address ≡ c → is_in (base + 1) count address ≡ c → cond c (Some (i + 1 + (address - (base + 1)))) (position_from (is_at address) (i + 1 + count) rest) ≡ cond c (Some (i + (address - base))) (position_from (is_at address) (i + suc count) rest)
    by_inside e true f g = ap (λ n. Some n) (let h : base + 1 ≤ address = grind (arith, nat_tests) in let k : i + 1 + (address - (base + 1)) ≡ i + (address - base) = omega arith in k)
    by_inside e false f g = ap (λ n. position_from (is_at address) n rest) (let k : i + 1 + count ≡ i + suc count = omega arith in k)

    by_here : (position_from (is_at address) (i + 1) (addresses (base + 1) count ++ rest) ≡ cond (is_in (base + 1) count address) (Some (i + 1 + (address - (base + 1)))) (position_from (is_at address) (i + 1 + count) rest)) → (b : Bool) → (base == address) ≡ b → cond (base == address) (Some i) (position_from (is_at address) (i + 1) (addresses (base + 1) count ++ rest)) ≡ cond (is_in base (suc count) address) (Some (i + (address - base))) (position_from (is_at address) (i + suc count) rest)
    by_here found true e =
        let same : base ≡ address = grind (arith, nat_tests) in
        let inside : is_in base (suc count) address ≡ true = grind (arith, nat_tests) in
        ap (λ c. cond c (Some i) (position_from (is_at address) (i + 1) (addresses (base + 1) count ++ rest))) e
        ∙ (ap (λ n. Some n) (let k : i ≡ i + (address - base) = omega arith in k)
        ∙ sym (ap (λ c. cond c (Some (i + (address - base))) (position_from (is_at address) (i + suc count) rest)) inside))
    by_here found false e =
        let next : is_in (base + 1) count address ≡ is_in base (suc count) address = grind (arith, nat_tests) in
        ap (λ c. cond c (Some i) (position_from (is_at address) (i + 1) (addresses (base + 1) count ++ rest))) e
        ∙ (found
        ∙ (ap (λ c. cond c (Some (i + 1 + (address - (base + 1)))) (position_from (is_at address) (i + 1 + count) rest)) next
        ∙ by_inside e (is_in base (suc count) address) refl next))

-- ---- the byte at such a place

-- counted from a later place on, it is that of the data from there on
pub data_shift : (i count : ℕ) (payload : List ℕ) → data_at (Some (i + count)) payload ≡ data_at (Some i) (drop count payload)
data_shift i count payload =
    let l : length (drop count payload) ≡ length payload - count = length-drop count payload in
    let same : nat_lt (i + count) (length payload) ≡ nat_lt i (length (drop count payload)) = grind (arith, nat_tests) in
    ap (λ c. cond c (Some (slice_index_or payload (i + count) 0)) None) same
    ∙ ap (λ x. cond (nat_lt i (length (drop count payload))) (Some x) None)
    (ap (λ n. slice_index_or payload n 0) (let e : i + count ≡ count + i = omega arith in e) ∙ sym (get_or-drop count payload i 0))

found_shift : (address i count : ℕ) (xs payload : List ℕ) → data_at (position_from (is_at address) (i + count) xs) payload ≡ data_at (position_from (is_at address) i xs) (drop count payload)
found_shift address i count [] payload = refl
found_shift address i count (x ∷ xs) payload = by_here (found_shift address (i + 1) count xs payload) (x == address)
  where
    by_here : data_at (position_from (is_at address) (i + 1 + count) xs) payload ≡ data_at (position_from (is_at address) (i + 1) xs) (drop count payload) → (b : Bool) → data_at (cond b (Some (i + count)) (position_from (is_at address) (i + count + 1) xs)) payload ≡ data_at (cond b (Some i) (position_from (is_at address) (i + 1) xs)) (drop count payload)
    by_here later true = data_shift i count payload
    by_here later false =
        ap (λ n. data_at (position_from (is_at address) n xs) payload) (let e : i + count + 1 ≡ i + 1 + count = omega arith in e)
        ∙ later

-- ---- a buffer with a page table

found_placed : (base at : ℕ) (counts payload : List ℕ) (j : ℕ) → data_at (position_from (is_at (base + j)) 0 (buffer_addresses (placed (base + at) counts))) payload ≡ data_in at counts payload j
found_placed base at [] payload j = refl
found_placed base at (count ∷ rest) payload j =
    let a = base + j in
    let others = buffer_addresses (placed (behind (base + at) count) rest) in
    let same : is_in (base + at) count a ≡ is_in at count j = grind (arith, nat_tests) in
    ap (λ x. data_at x payload) (found_in (base + at) count 0 a others)
    ∙ (ap (λ c. data_at (cond c (Some (0 + (a - (base + at)))) (position_from (is_at a) (0 + count) others)) payload) same
    ∙ by_inside (found_placed base (behind at count) rest (drop count payload) j) (is_in at count j))
  where
    by_inside : data_at (position_from (is_at (base + j)) 0 (buffer_addresses (placed (base + behind at count) rest))) (drop count payload) ≡ data_in (behind at count) rest (drop count payload) j → (c : Bool) → data_at (cond c (Some (0 + (base + j - (base + at)))) (position_from (is_at (base + j)) (0 + count) (buffer_addresses (placed (behind (base + at) count) rest)))) payload ≡ cond c (data_at (Some (j - at)) payload) (data_in (behind at count) rest (drop count payload) j)
    by_inside later true = ap (λ n. data_at (Some n) payload) (let e : 0 + (base + j - (base + at)) ≡ j - at = omega arith in e)
    by_inside later false =
        found_shift (base + j) 0 count (buffer_addresses (placed (behind (base + at) count) rest)) payload
        ∙ (ap (λ n. data_at (position_from (is_at (base + j)) 0 (buffer_addresses (placed n rest))) (drop count payload)) (let e : behind (base + at) count ≡ base + behind at count = omega arith in e)
        ∙ later)

-- ---- one without

pub no_byte : (j : ℕ) (payload : List ℕ) → length payload ≤ j → data_at (Some j) payload ≡ None
no_byte j payload l = let e : nat_lt j (length payload) ≡ false = grind (arith, nat_tests) in ap (λ c. cond c (Some (slice_index_or payload j 0)) None) e

found_single : (base len : ℕ) (payload : List ℕ) (j : ℕ) → length payload ≤ len → data_at (position_from (is_at (base + j)) 0 (buffer_addresses (single base len))) payload ≡ data_at (Some j) payload
found_single base len payload j short = by_length (len == 0) refl
  where
    by_inside : (c : Bool) → is_in base len (base + j) ≡ c → data_at (cond c (Some (0 + (base + j - base))) None) payload ≡ data_at (Some j) payload
    by_inside true e = ap (λ n. data_at (Some n) payload) (let k : 0 + (base + j - base) ≡ j = omega arith in k)
    by_inside false e = sym (no_byte j payload (let h : len ≤ j = grind (arith, nat_tests) in omega arith))

    by_length : (b : Bool) → (len == 0) ≡ b → data_at (position_from (is_at (base + j)) 0 (buffer_addresses (cond b [] (record { base = base; length = len } ∷ [])))) payload ≡ data_at (Some j) payload
    by_length true e = sym (no_byte j payload (let z : len ≡ 0 = grind (arith, nat_tests) in omega arith))
    by_length false e =
        ap (λ x. data_at x payload) (found_in base len 0 (base + j) [])
        ∙ by_inside (is_in base len (base + j)) refl

-- ---- a buffer as it is laid out

-- the byte of data at a place of a buffer that is laid out for a command
abbrev pub data_of : List ℕ → List ℕ → ℕ → Option ℕ
data_of [] payload j = data_at (Some j) payload
data_of (count ∷ rest) payload j = data_in 0 (count ∷ rest) payload j

abbrev address_in : (slot j : ℕ) → ℕ
address_in slot j = start (windows.Buffer slot) + j

from_zero : (address : ℕ) (xs payload : List ℕ) → data_at (position (is_at address) xs) payload ≡ data_at (position_from (is_at address) 0 xs) payload
from_zero address xs payload = ap (λ x. data_at x payload) (position_from-zero (is_at address) xs)

pub data_laid : (slot : ℕ) (cmd : Cmd) (segments payload : List ℕ) (j : ℕ) → length payload ≤ cmd.length → data_at (position (λ other. other == start (windows.Buffer slot) + j) (buffer_addresses (laid_out slot cmd segments))) payload ≡ data_of segments payload j
data_laid slot cmd [] payload j short =
    from_zero (address_in slot j) (buffer_addresses (single (start (windows.Buffer slot)) cmd.length)) payload
    ∙ found_single (start (windows.Buffer slot)) cmd.length payload j short
data_laid slot cmd (count ∷ rest) payload j short =
    from_zero (address_in slot j) (buffer_addresses (placed (start (windows.Buffer slot)) (count ∷ rest))) payload
    ∙ (ap (λ n. data_at (position_from (is_at (address_in slot j)) 0 (buffer_addresses (placed n (count ∷ rest)))) payload) (let e : start (windows.Buffer slot) ≡ start (windows.Buffer slot) + 0 = omega arith in e)
    ∙ found_placed (start (windows.Buffer slot)) 0 (count ∷ rest) payload j)
