use Rattle.std.proofs.Common.{refl}
use Rattle.orb_list.proofs.Counted.{status_slots}
use Rattle.orb_list.proofs.lists.Lists.take_status.Goals as goal

pub returns-in-Err-clause-none : goal.returns-in-Err-clause-none
returns-in-Err-clause-none c = rw (← c.self.view_is) (status_slots _ _ _ _ _ _ _ c.in-Err.ensures.step refl)
