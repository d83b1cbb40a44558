use Rattle.orb_list.proofs.Held.{held_status}
use Rattle.orb_list.proofs.slots.Slots.take_status.Goals as goal

pub sweep-requires : goal.sweep-requires
sweep-requires c =
    rw c.note_status.ensures
    (held_status c.args.self.now.slots c.args.image.now c.in-Some.slot c.args.status.now c.waiting.ensures.size c.in-Some.ensures.below c.in-Some-waiting.ensures.held c.requires.holds)
