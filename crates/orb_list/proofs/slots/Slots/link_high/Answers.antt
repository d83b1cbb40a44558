use Rattle.std.proofs.Common.{arith}
use Rattle.orb_list.proofs.Held.{held_quad}
use Rattle.orb_list.proofs.slots.Slots.link_high.Goals as goal

pub sweep-requires : goal.sweep-requires
sweep-requires c =
    let b = c.in-Some.ensures.before in
    rw (c.set_link.ensures, c.put_orb_quad.ensures)
    (held_quad c.args.self.now.slots c.args.image.now c.in-Some.field-0.before 0 c.high.result c.requires.holds b.in_slot.below (omega arith))
