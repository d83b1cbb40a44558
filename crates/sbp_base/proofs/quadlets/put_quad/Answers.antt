use Rattle.std.proofs.Common.{arith, ◌≡◌, ◌∙◌, ◌+◌, ◌-◌, ◌≤◌, ℕ, List, [], ◌++◌, length, take, drop, ap, length-drop}
use Rattle.std.proofs.lemmas.List.{append-nil, drop-drop, drop_all, take_rest}
use Rattle.byteorder.specs.Endian.{big_bytes}
use Rattle.sbp_base.specs.Quadlets.{with_quad}
use Rattle.sbp_base.proofs.quadlets.put_quad.Goals as goal
use borrow.Rule.Slice.PartMut.{put_mid}

-- The rest from a place on, written anew with a quadlet at its front, is the quadlet at that place.
written_at : (xs ys : List ℕ) (at value : ℕ) → at + 4 ≤ length xs → ys ≡ big_bytes 4 value ++ drop 4 (take (length xs - at) (drop at xs)) → put_mid at (length xs - at) xs ys ≡ with_quad xs at value
written_at xs ys at value h e =
    let rest : ys ≡ big_bytes 4 value ++ drop (at + 4) xs =
    e ∙ ap (λ (z : List ℕ). big_bytes 4 value ++ drop 4 z) (take_rest xs at)
    ∙ ap (λ (z : List ℕ). big_bytes 4 value ++ z) (drop-drop 4 at xs) in
    let end : drop (length xs - at) (drop at xs) ≡ [] = drop_all (length xs - at) (drop at xs) (omega (arith, length-drop at xs)) in
    ap (λ (z : List ℕ). take at xs ++ z) (ap (λ (z : List ℕ). ys ++ z) end ∙ append-nil ys ∙ rest)

pub returns : goal.returns
returns c = written_at _ _ _ _ c.requires c.write_u32.ensures
