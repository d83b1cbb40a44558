use Rattle.std.proofs.Common.{◌∙◌, ap, sym}
use Rattle.packet_store.specs.Rings.{finds, older, slot, slot_of}
use Rattle.packet_store.proofs.Rings.{pick_of, pick_other}
use Rattle.packet_store.proofs.ring.Ring.get.Goals as goal

pub returns-then-is_in_slot : goal.returns-then-is_in_slot
unfolding finds
returns-then-is_in_slot c =
    let s = c.args.self.now in
    let here = sym c.is_in_slot.ensures ∙ c.if-is_in_slot.true in
    c.slot.ensures
    ∙ ap (slot s.slots.items) c.slot_of.ensures.slot
    ∙ pick_of c.args.serial (slot s.slots.items (slot_of c.args.serial)) (older s.older.entries c.args.serial) here

pub returns : goal.returns
unfolding finds
returns c =
    let s = c.args.self.now in
    let elsewhere = sym c.is_in_slot.ensures ∙ c.if-is_in_slot.false in
    c.get.ensures.value ∙ sym (pick_other c.args.serial (slot s.slots.items (slot_of c.args.serial)) (older s.older.entries c.args.serial) elsewhere)
