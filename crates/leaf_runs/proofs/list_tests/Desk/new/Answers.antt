use Rattle.orb_list.proofs.Held.{held_new}
use Rattle.leaf_runs.proofs.list_tests.Desk.new.Goals as goal

pub invariant_of-result : goal.invariant_of-result
invariant_of-result c = record { holds = rw (c.new-slots.ensures, c.in_ok-image.ensures) (held_new c.args.rom.now) }
