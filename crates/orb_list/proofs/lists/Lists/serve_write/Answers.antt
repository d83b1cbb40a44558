use Rattle.std.proofs.Common.{ap, subst, sym, ℕ}
use Rattle.bus_memory.specs.Memory.{Memory}
use Rattle.orb_list.specs.Holds.{HoldsSlots}
use Rattle.orb_list.proofs.Counted.{written_held}
use Rattle.orb_list.proofs.lists.Lists.serve_write.Goals as goal

pub invariant_of-self : goal.invariant_of-self
invariant_of-self c = record {
  holds = subst (λ (m : Memory). HoldsSlots c.self.inside.slots.slots m) (sym (ap (λ (p : ℕ × Memory). p.1) c.serve_write.ensures))
      (written_held c.self.inside.slots c.self.inside.image c.args.offset c.args.bytes.now c.self.invariant.holds);
  plans = c.self.invariant.plans;
}
