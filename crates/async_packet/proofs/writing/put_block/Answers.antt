use Rattle.std.proofs.Common.{◌≡◌, ◌∙◌, sym, ap, ℕ, ◌+◌, List, [], ◌++◌, length, drop, append_assoc, append-nil, arith}
use Rattle.std.proofs.lemmas.List.{drop_all, drop_at, drop-drop}
use Rattle.async_packet.proofs.writing.put_block.Goals as goal

-- Two parts of bytes, of which the first is written whole and the second at its front.
joined : (out front rest head body new_front new_rest : List ℕ) (n : ℕ) → out ≡ front ++ rest → length front ≡ 16 → new_front ≡ head ++ drop 16 front → new_rest ≡ body ++ drop n rest → new_front ++ new_rest ≡ (head ++ body) ++ drop (16 + n) out
joined out front rest head body new_front new_rest n parts long first second =
    let gone : drop 16 front ≡ [] = drop_all 16 front (omega (arith, long)) in
    let tail : drop 16 out ≡ rest = ap (drop 16) parts ∙ drop_at front rest 16 long in
    let whole : new_front ≡ head = first ∙ ap (λ (z : List ℕ). head ++ z) gone ∙ append-nil head in
    let behind : new_rest ≡ body ++ drop (16 + n) out =
    second ∙ ap (λ (z : List ℕ). body ++ drop n z) (sym tail) ∙ ap (λ (z : List ℕ). body ++ z) (drop-drop n 16 out) in
    ap (λ (z : List ℕ). z ++ new_rest) whole ∙ ap (λ (z : List ℕ). head ++ z) behind ∙ sym (append_assoc head body (drop (16 + n) out))

pub returns-clause-written : goal.returns-clause-written
returns-clause-written c =
    let split = c.split_at_mut-front.ensures in
    joined _ _ _ _ _ _ _ _ split.value split.front_len c.put_four-front_len.ensures.written c.put_payload.ensures.written
