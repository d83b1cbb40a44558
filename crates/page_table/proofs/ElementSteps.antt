-- Elements of a page table.
use Rattle.std.proofs.Common.{arith, ◌≡◌, ap, ℕ, suc, ◌+◌, ◌-◌, ◌*◌, ◌/◌, ◌%◌, ◌<◌, List, [], ◌∷◌, ◌++◌, length, sym, ◌∙◌, append_assoc}
use Rattle.std.proofs.lemmas.List.{append-nil}
use Rattle.page_table.specs.Buffer.{AreSegments}
use Rattle.page_table.specs.declared.segment.Segment.{Segment}
use Rattle.page_table.specs.Elements.{element, elements_in, elements_from}

pub elements_none : (bytes : List ℕ) (at : ℕ) → 8 * at ≡ length bytes → elements_from at bytes ≡ []
unfolding elements_from
elements_none bytes at h =
    let e : length bytes / 8 - at ≡ 0 = omega arith in
    ap (λ (n : ℕ). elements_in n at bytes) e

pub elements_step : (bytes : List ℕ) (at : ℕ) → 8 * at < length bytes → length bytes % 8 ≡ 0 → elements_from at bytes ≡ element bytes at ∷ elements_from (at + 1) bytes
unfolding elements_from
elements_step bytes at h whole =
    let e : length bytes / 8 - at ≡ suc (length bytes / 8 - (at + 1)) = omega arith in
    ap (λ (n : ℕ). elements_in n at bytes) e

pub none_behind : (bytes : List ℕ) (at : ℕ) (xs : List Segment) → 8 * at ≡ length bytes → xs ≡ xs ++ elements_from at bytes
none_behind bytes at xs h = sym (ap (λ (l : List Segment). xs ++ l) (elements_none bytes at h) ∙ append-nil xs)

pub one_behind : (bytes : List ℕ) (at : ℕ) (xs ys : List Segment) → 8 * at < length bytes → length bytes % 8 ≡ 0 → ys ≡ xs ++ element bytes at ∷ [] → ys ++ elements_from (at + 1) bytes ≡ xs ++ elements_from at bytes
one_behind bytes at xs ys h whole e =
    ap (λ (l : List Segment). l ++ elements_from (at + 1) bytes) e
    ∙ append_assoc xs (element bytes at ∷ []) (elements_from (at + 1) bytes)
    ∙ ap (λ (l : List Segment). xs ++ l) (sym (elements_step bytes at h whole))

pub rest_sound : (bytes : List ℕ) (at : ℕ) → 8 * at < length bytes → length bytes % 8 ≡ 0 → AreSegments (elements_from at bytes) → AreSegments (elements_from (at + 1) bytes)
rest_sound bytes at h whole sound = let both : AreSegments (element bytes at ∷ elements_from (at + 1) bytes) = rw elements_step at sound in both.1
