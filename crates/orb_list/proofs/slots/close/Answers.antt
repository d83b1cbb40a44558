use Rattle.std.proofs.Common.{sym}
use Rattle.orb_list.proofs.Closed.{closed_none}
use Rattle.orb_list.proofs.slots.close.Goals as goal

pub loop-number-init : goal.loop-number-init
loop-number-init c = sym (closed_none c.args.slots.now c.args.image.now)
