use Rattle.std.proofs.Common.{◌≡◌, ◌∙◌, refl, sym, None, Some, arith}
use Rattle.packet_store.proofs.shelf.Shelf.new.Goals as goal

pub invariant_of-result : goal.invariant_of-result
invariant_of-result c =
    let none = c.new.ensures.none in (
      record {
        named = λ q k h. let e : None ≡ Some k = sym (none q) ∙ h in cc e;
        first = none 0;
        ends = λ q l. none q;
        counted = refl;
      },
      record { lowest = λ q. rw (none q) refl; counted = refl },
      omega arith,
      c.new.ensures.exact,
    )
