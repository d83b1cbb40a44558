use Rattle.std.proofs.Common.{◌∙◌, List, Option, length, map, sym, ap, subst}
use Rattle.orb_list.specs.declared.list.PresentList.{PresentList}
use Rattle.orb_list.specs.declared.slot.Slot.{Slot}
use Rattle.orb_list.specs.Table.{SlotTable, released}
use Rattle.orb_list.specs.Holds.{HoldsSlots}
use Rattle.orb_list.proofs.Freeing.{unswept}
use Rattle.orb_list.proofs.Sound.{sound_swept}
use Rattle.orb_list.proofs.Held.{held_released}
use Rattle.orb_list.proofs.slots.Slots.sweep.Goals as goal

pub invariant_of-self : goal.invariant_of-self
invariant_of-self c =
    let i = c.self.inside in
    let s : SlotTable = record { slots = i.slots; present = i.present; lists = i.lists; pinned = i.pinned; calls = i.calls; acts = i.acts } in
    sound_swept s c.free_over.new.slots (c.free_over.ensures.slots ∙ ap (λ (p : Option PresentList). map (released p i.pinned) i.slots) (sym c.in-Some.is)) c.self.invariant

pub returns-in-Some-clause-kept : goal.returns-in-Some-clause-kept
returns-in-Some-clause-kept c =
    let held = subst (λ (l : List Slot). HoldsSlots l c.args.image.now) (ap (λ (s : SlotTable). s.slots) (sym c.self.view_is)) c.requires in
    rw (c.free_over.ensures.image, c.free_over.ensures.slots) (held_released c.self.inside.slots _ c.self.inside.pinned c.args.image.now c.self.invariant.size held)

pub returns-in_default-clause-swept : goal.returns-in_default-clause-swept
returns-in_default-clause-swept c =
    unswept c.args.self.now c.args.image.now
    (ap (λ (s : SlotTable). s.present) (sym c.self.view_is) ∙ c.in_default.is)
    (ap (λ (s : SlotTable). length s.slots) (sym c.self.view_is) ∙ c.self.invariant.size)
    c.requires
