use Rattle.std.proofs.Common.{arith, rules, ◌≡◌, sym, ◌∙◌, ap, subst, ℕ, ◌+◌, List, [], ◌∷◌, ◌++◌, length}
use Rattle.page_table.specs.Buffer.{AreSegments, bytes_of}
use Rattle.page_table.specs.declared.segment.Segment.{Segment}
use Rattle.page_table.specs.Ends.{ends_from}
use Rattle.page_table.proofs.Ends.{are_segments_push, ends_length, ends_push, bytes_few}
use Rattle.page_table.proofs.table.SegmentTable.push.Goals as goal

pub overflow_add-end : goal.overflow_add-end
overflow_add-end c =
    omega (arith, c.total.ensures, c.from.ensures, ap bytes_of c.self.view_is, ap length c.self.view_is, bytes_few c.self.inside.segments.items c.self.invariant.0, c.requires.room, c.requires.sound.small)

pub push-requires-2 : goal.push-requires-2
push-requires-2 c = (search rules, omega (arith, ap length c.self.invariant.1, ends_length 0 c.self.inside.segments.items, ap length c.self.view_is, c.requires.room))

pub invariant_of-self : goal.invariant_of-self
invariant_of-self c =
    let xs : List Segment = c.self.inside.segments.items in
    let end : c.total.result + c.from.result ≡ 0 + bytes_of xs + c.args.segment.length = omega (arith, c.total.ensures, c.from.ensures, ap bytes_of c.self.view_is) in (
      subst (λ (l : List Segment). AreSegments l) (sym c.push.ensures.items) (are_segments_push xs c.args.segment c.self.invariant.0 c.requires.sound),
      c.push-2.ensures.items
          ∙ ap (λ (l : List ℕ). l ++ (c.total.result + c.from.result) ∷ []) c.self.invariant.1
          ∙ ap (λ (n : ℕ). ends_from 0 xs ++ n ∷ []) end
          ∙ sym (ends_push 0 xs c.args.segment)
          ∙ ap (ends_from 0) (sym c.push.ensures.items),
    )
