use Rattle.std.proofs.Common.{subst, sym}
use Rattle.bus_memory.specs.Memory.{Memory}
use Rattle.orb_list.specs.Holds.{HoldsSlots}
use Rattle.orb_list.proofs.Managed.{managed_held}
use Rattle.orb_list.proofs.lists.Lists.manage.Goals as goal

pub invariant_of-self : goal.invariant_of-self
invariant_of-self c = record {
  holds = subst (λ (m : Memory). HoldsSlots c.self.inside.slots.slots m) (sym c.put_management.ensures)
      (managed_held c.self.inside.slots c.self.inside.image c.args.place c.args.orb.now c.requires.place c.self.invariant.holds);
  plans = c.self.invariant.plans;
}
