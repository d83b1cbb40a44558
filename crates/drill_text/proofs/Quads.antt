-- Bytes as quadlets, and the sum over them.
use Rattle.std.proofs.Common.{◌≡◌, ◌∙◌, refl, sym, ap, subst, ℕ, ◌+◌, ◌%◌, ◌≤◌, List, [], ◌∷◌, ◌++◌, length, drop, get_or, append_assoc, length-drop, arith}
use Rattle.std.proofs.lemmas.List.{drop-drop, get_or-drop}
use Rattle.config_rom.specs.Sum.{low_bits, quad_bits, register_after, sum_of}
use Rattle.config_rom.proofs.Sums.{register-sum, register-append}
use Rattle.drill_text.specs.Sums.{quadlet, quads_of}

-- four bytes are a quadlet
pub quads-next : (s : ℕ) (xs : List ℕ) → 4 ≤ length xs
    → register_after (register_after s (low_bits 32 (quadlet (get_or xs 0 0) (get_or xs 1 0) (get_or xs 2 0) (get_or xs 3 0)))) (quad_bits (quads_of (drop 4 xs))) ≡ register_after s (quad_bits (quads_of xs))
quads-next s [] h = absurd (omega arith)
quads-next s (a ∷ []) h = absurd (omega arith)
quads-next s (a ∷ b ∷ []) h = absurd (omega arith)
quads-next s (a ∷ b ∷ c ∷ []) h = absurd (omega arith)
quads-next s (a ∷ b ∷ c ∷ d ∷ xs) h = sym (register-append s (low_bits 32 (quadlet a b c d)) (quad_bits (quads_of xs)))

-- ---- whole quadlets

pub quad_bits-append : (xs ys : List ℕ) → quad_bits (xs ++ ys) ≡ quad_bits xs ++ quad_bits ys
quad_bits-append [] ys = refl
quad_bits-append (x ∷ xs) ys = ap (λ bs. low_bits 32 x ++ bs) (quad_bits-append xs ys) ∙ sym (append_assoc (low_bits 32 x) (quad_bits xs) (quad_bits ys))

-- the sum behind some quadlets goes on from their sum
pub sum-goes-on : (s r : ℕ) (quads more : List ℕ) → r ≡ register_after s (quad_bits more) → s ≡ sum_of quads → r ≡ sum_of (quads ++ more)
sum-goes-on s r quads more e h =
    e
    ∙ ap (λ k. register_after k (quad_bits more)) (h ∙ sym (register-sum quads))
    ∙ sym (register-append 0 (quad_bits quads) (quad_bits more))
    ∙ ap (λ bs. register_after 0 bs) (sym (quad_bits-append quads more))
    ∙ register-sum (quads ++ more)

pub quads-append : (xs ys : List ℕ) → length xs % 4 ≡ 0 → quads_of (xs ++ ys) ≡ quads_of xs ++ quads_of ys
quads-append [] ys h = refl
quads-append (a ∷ []) ys h = absurd (omega arith)
quads-append (a ∷ b ∷ []) ys h = absurd (omega arith)
quads-append (a ∷ b ∷ c ∷ []) ys h = absurd (omega arith)
quads-append (a ∷ b ∷ c ∷ d ∷ xs) ys h = ap (λ qs. quadlet a b c d ∷ qs) (quads-append xs ys (omega arith))

-- four bytes from a place on are the next quadlet
pub quads-at : (s at : ℕ) (bytes : List ℕ) → at + 4 ≤ length bytes
    → register_after (register_after s (low_bits 32 (quadlet (get_or bytes at 0) (get_or bytes (at + 1) 0) (get_or bytes (at + 2) 0) (get_or bytes (at + 3) 0)))) (quad_bits (quads_of (drop (at + 4) bytes))) ≡ register_after s (quad_bits (quads_of (drop at bytes)))
quads-at s at bytes h =
    let size = length-drop at bytes in
    let some : 4 ≤ length (drop at bytes) = omega arith in
    let first : get_or (drop at bytes) 0 0 ≡ get_or bytes at 0 = get_or-drop at bytes 0 0 ∙ (let e : at + 0 ≡ at = omega arith in ap (λ k. get_or bytes k 0) e) in
    let second : get_or (drop at bytes) 1 0 ≡ get_or bytes (at + 1) 0 = get_or-drop at bytes 1 0 in
    let third : get_or (drop at bytes) 2 0 ≡ get_or bytes (at + 2) 0 = get_or-drop at bytes 2 0 in
    let fourth : get_or (drop at bytes) 3 0 ≡ get_or bytes (at + 3) 0 = get_or-drop at bytes 3 0 in
    let rest : drop 4 (drop at bytes) ≡ drop (at + 4) bytes = drop-drop 4 at bytes in
    subst (λ ys. register_after (register_after s (low_bits 32 (quadlet (get_or bytes at 0) (get_or bytes (at + 1) 0) (get_or bytes (at + 2) 0) (get_or bytes (at + 3) 0)))) (quad_bits (quads_of ys)) ≡ register_after s (quad_bits (quads_of (drop at bytes)))) rest
    (ap (λ q. register_after (register_after s (low_bits 32 q)) (quad_bits (quads_of (drop 4 (drop at bytes))))) (sym (same_quadlet _ _ _ _ _ _ _ _ first second third fourth))
    ∙ quads-next s (drop at bytes) some)
  where
    same_quadlet : (a b c d e f g h : ℕ) → a ≡ e → b ≡ f → c ≡ g → d ≡ h → quadlet a b c d ≡ quadlet e f g h
    same_quadlet a b c d e f g h i j k l = rw (i, j, k, l) refl
