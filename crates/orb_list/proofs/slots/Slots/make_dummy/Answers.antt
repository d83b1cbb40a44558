use Rattle.std.proofs.Common.{arith, List, sym, ap, subst}
use Rattle.orb_list.specs.declared.slot.Slot.{Slot}
use Rattle.orb_list.specs.Table.{SlotTable}
use Rattle.orb_list.specs.Holds.{HoldsSlots}
use Rattle.orb_list.proofs.Held.{held_quad}
use Rattle.orb_list.proofs.slots.Slots.make_dummy.Goals as goal

pub returns-clause-kept : goal.returns-clause-kept
returns-clause-kept c =
    let held = subst (λ (l : List Slot). HoldsSlots l c.args.image.now) (ap (λ (s : SlotTable). s.slots) (sym c.self.view_is)) c.requires.holds in
    let v = c.slot.ensures.value in
    let s = c.slot.ensures.small in
    rw c.make_dummy.ensures (held_quad c.self.inside.slots c.args.image.now c.slot.result 16 _ held (omega arith) (omega arith))
