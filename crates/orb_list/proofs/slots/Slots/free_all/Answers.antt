use Rattle.std.proofs.Common.{List, sym, ap, subst}
use Rattle.orb_list.specs.declared.slot.Slot.{Slot}
use Rattle.orb_list.specs.Table.{SlotTable}
use Rattle.orb_list.specs.Holds.{HoldsSlots}
use Rattle.orb_list.proofs.Held.{held_freed}
use Rattle.orb_list.proofs.slots.Slots.free_all.Goals as goal

pub returns-clause-kept : goal.returns-clause-kept
returns-clause-kept c =
    let held = subst (λ (l : List Slot). HoldsSlots l c.args.image.now) (ap (λ (s : SlotTable). s.slots) (sym c.self.view_is)) c.requires.holds in
    rw (c.close.ensures, c.free_each.ensures) (held_freed c.self.inside.slots c.args.image.now c.self.invariant.size held)
