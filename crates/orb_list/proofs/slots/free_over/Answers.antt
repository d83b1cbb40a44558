use Rattle.std.proofs.Common.{arith, ◌≡◌, ◌∙◌, refl, sym, ap, ◌<◌, length, get_or}
use Rattle.std.proofs.Math.ListN.{set}
use Rattle.orb_list.specs.declared.slot.Slot.{Slot}
use Rattle.orb_list.specs.Table.{freed, is_over, slot_in, unused}
use Rattle.orb_list.proofs.Closed.{closed_none}
use Rattle.orb_list.proofs.Freeing.{all_done, over_done, held_done, next_read}
use Rattle.orb_list.proofs.slots.free_over.Goals as goal
use Rattle.orb_list.proofs.slots.free_over.Goals.{then-is_over, else-is_over}

pub loop-number-init : goal.loop-number-init
loop-number-init c = record { slots = refl; image = sym (closed_none (all_done c.args.list.now c.args.pinned.now c.args.slots.now) c.args.image.now) }

pub loop-number-preserved : goal.loop-number-preserved
loop-number-preserved c =
    let i = c.loop-number.invariant in
    let n = c.loop-number.number in
    let lt : n < length c.args.slots.now = omega (arith, c.loop-number-test.true, c.requires.size) in
    let read : (d : Slot) → get_or c.loop-number.slots n d ≡ slot_in c.loop-number.slots n =
    λ d. next_read c.args.list.now c.args.pinned.now c.args.slots.now c.loop-number.slots n lt i.slots d
    ∙ sym (next_read c.args.list.now c.args.pinned.now c.args.slots.now c.loop-number.slots n lt i.slots unused) in
    let over : is_over c.args.list.now c.args.pinned.now (slot_in c.loop-number.slots n) ≡ c.is_over.result =
    ap (λ (s : Slot). is_over c.args.list.now c.args.pinned.now s) (sym (read c.index-slots-number.result)) ∙ sym c.is_over.ensures in
    elim c.if-is_over.branch [
      | then-is_over w ↦
          let p = over_done c.args.list.now c.args.pinned.now c.args.slots.now c.loop-number.slots n lt i.slots c.args.image.now c.loop-number.image i.image (over ∙ w.if-is_over.true) in
          record { slots = w.slots-is ∙ ap (λ (s : Slot). set c.loop-number.slots n (freed s)) (read _) ∙ p.0; image = w.image-is ∙ w.free.ensures ∙ p.1 }
      | else-is_over w ↦
          let p = held_done c.args.list.now c.args.pinned.now c.args.slots.now c.loop-number.slots n lt i.slots c.args.image.now c.loop-number.image i.image (c.requires.holds.armed n c.loop-number-test.true) (over ∙ w.if-is_over.false) in
          record { slots = w.slots-is ∙ p.0; image = w.image-is ∙ p.1 }
    ]
