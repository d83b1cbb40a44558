use Rattle.std.proofs.Common.{refl, Some}
use Rattle.orb_list.specs.declared.slot.SlotState.TheVariants as states
use Rattle.orb_list.specs.Requests.{asked_of}
use Rattle.orb_list.specs.Table.{next_ticket}
use Rattle.orb_list.proofs.Held.{held_written}
use Rattle.orb_list.proofs.slots.Slots.prepare.Goals as goal

pub add-requires-clause-free : goal.add-requires-clause-free
add-requires-clause-free c = rw c.next_ticket-ticket.ensures c.in_ok-slot.ensures.free

pub returns-clause-kept : goal.returns-clause-kept
returns-clause-kept c =
    let t = next_ticket c.args.self.now c.in_ok-slot.slot c.args.request.now.login in
    rw (c.add.ensures, c.write_slot.ensures, c.next_ticket-ticket.ensures)
    (held_written c.args.self.now.slots c.args.image.now c.in_ok-slot.slot (record { state = states.Waiting; last = Some t }) (asked_of c.args.request.now) c.can_prepare.ensures.size c.requires.holds c.in_ok-slot.ensures.below refl c.requires.request)
