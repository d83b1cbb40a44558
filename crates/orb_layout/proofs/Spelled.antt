-- Quadlets that were read are written as the bytes they were read from.
use Rattle.std.proofs.Common.{arith, ◌≡◌, sym, ◌∙◌, ap, ℕ, zero, suc, ◌+◌, ◌*◌, ◌/◌, ◌%◌, ◌^◌, ◌<◌, ◌≤◌, List, [], ◌∷◌, ◌++◌, length, take, drop, get_or, length-drop}
use Rattle.std.specs.List.{All}
use Rattle.std.proofs.lemmas.List.{get_or-drop, take-append-drop, drop-drop, drop_all}
use Rattle.std.proofs.lemmas.List.Elements.{All-head, All-tail}
use Rattle.byteorder.specs.Endian.{big_bytes, big_number}
use Rattle.sbp_base.specs.Quadlets.{quad}
use Rattle.orb_layout.specs.Pointers.{quad_bytes}

-- Four bytes are the quadlet that they spell.
pub quad_spelled : (xs : List ℕ) → 4 ≤ length xs → ((k : ℕ) → get_or xs k 0 < 256) → big_bytes 4 (big_number 4 xs) ≡ take 4 xs
quad_spelled [] h small = absurd (omega arith)
quad_spelled (a ∷ []) h small = absurd (omega arith)
quad_spelled (a ∷ b ∷ []) h small = absurd (omega arith)
quad_spelled (a ∷ b ∷ c ∷ []) h small = absurd (omega arith)
quad_spelled (a ∷ b ∷ c ∷ d ∷ rest) h small =
    let p : a < 256 = small 0 in
    let q : b < 256 = small 1 in
    let r : c < 256 = small 2 in
    let s : d < 256 = small 3 in
    let x = a * 16777216 + (b * 65536 + (c * 256 + (d * 1 + 0))) in
    let e : x / 16777216 % 256 ≡ a = omega arith in
    let f : x / 65536 % 256 ≡ b = omega arith in
    let g : x / 256 % 256 ≡ c = omega arith in
    let i : x % 256 ≡ d = omega arith in
    cc

-- What stands behind bytes counts as zeros.
pub small_anywhere : (bytes : List ℕ) → All (λ byte. byte < 256) bytes → (k : ℕ) → get_or bytes k 0 < 256
small_anywhere [] all k = omega arith
small_anywhere (byte ∷ bytes) all zero = All-head (λ x. x < 256) byte bytes all
small_anywhere (byte ∷ bytes) all (suc k) = small_anywhere bytes (All-tail (λ x. x < 256) byte bytes all) k

-- so many quadlets from a place on
abbrev pub quads_from : ℕ → ℕ → List ℕ → List ℕ
quads_from at zero bytes = []
quads_from at (suc n) bytes = quad bytes at ∷ quads_from (at + 4) n bytes

pub quads_spelled : (bytes : List ℕ) (at n : ℕ) → length bytes ≡ at + 4 * n → ((k : ℕ) → get_or bytes k 0 < 256) → quad_bytes (quads_from at n bytes) ≡ drop at bytes
quads_spelled bytes at zero h small = sym (drop_all at bytes (omega arith))
quads_spelled bytes at (suc n) h small =
    let here : big_bytes 4 (quad bytes at) ≡ take 4 (drop at bytes) = quad_spelled (drop at bytes) (simp length-drop (omega arith)) (λ i. rw (get_or-drop at bytes i 0) (small (at + i))) in
    let later : quad_bytes (quads_from (at + 4) n bytes) ≡ drop 4 (drop at bytes) = quads_spelled bytes (at + 4) n (omega arith) small ∙ sym (drop-drop 4 at bytes) in
    ap (λ (l : List ℕ). l ++ quad_bytes (quads_from (at + 4) n bytes)) here
    ∙ ap (λ (l : List ℕ). take 4 (drop at bytes) ++ l) later
    ∙ take-append-drop 4 (drop at bytes)

-- A quadlet of bytes has 32 bits.
pub quad_small : (bytes : List ℕ) (at : ℕ) → ((k : ℕ) → get_or bytes k 0 < 256) → quad bytes at < 2 ^ 32
quad_small bytes at small =
    let p : get_or (drop at bytes) 0 0 < 256 = rw (get_or-drop at bytes 0 0) (small (at + 0)) in
    let q : get_or (drop at bytes) 1 0 < 256 = rw (get_or-drop at bytes 1 0) (small (at + 1)) in
    let r : get_or (drop at bytes) 2 0 < 256 = rw (get_or-drop at bytes 2 0) (small (at + 2)) in
    let s : get_or (drop at bytes) 3 0 < 256 = rw (get_or-drop at bytes 3 0) (small (at + 3)) in
    omega arith
