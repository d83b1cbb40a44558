use Rattle.std.proofs.Common.{arith, get_or, ◌≡◌, refl, ◌∙◌, ap, ℕ, ◌+◌, ◌-◌, List, [], ◌∷◌, length}
use Rattle.page_table.specs.Buffer.{bytes_of}
use Rattle.page_table.specs.declared.segment.Segment.{Segment}
use Rattle.page_table.proofs.Ends.{ends_length, ends_with_total}
use Rattle.page_table.proofs.table.SegmentTable.total.Goals as goal

empty : (xs : List Segment) → length xs ≡ 0 → 0 ≡ bytes_of xs
empty [] h = refl
empty (segment ∷ rest) h = absurd (omega arith)

pub returns-in-empty : goal.returns-in-empty
returns-in-empty c =
    let e = c.as_slice.ensures.value ∙ c.self.invariant.1 in
    empty c.args.self.now (omega (arith, c.in-empty.len_below, ap length e, ends_length 0 c.self.inside.segments.items, ap length c.self.view_is))

pub returns-in-len1-up : goal.returns-in-len1-up
returns-in-len1-up c =
    let e = c.as_slice.ensures.value ∙ c.self.invariant.1 in
    let whole : 0 + bytes_of c.self.inside.segments.items ≡ bytes_of c.args.self.now = omega (arith, ap bytes_of c.self.view_is) in
    ap (λ (l : List ℕ). get_or l (length l - 1) 0) e
    ∙ ends_with_total 0 c.self.inside.segments.items (omega (arith, c.in-len1-up.len_at_least, ap length e, ends_length 0 c.self.inside.segments.items))
    ∙ whole
