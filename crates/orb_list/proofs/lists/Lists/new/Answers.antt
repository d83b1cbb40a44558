use Rattle.orb_list.proofs.Counted.{new_is_held}
use Rattle.orb_list.proofs.lists.Lists.new.Goals as goal

pub invariant_of-result : goal.invariant_of-result
invariant_of-result c = rw (c.new.ensures, c.in_ok-new.ensures, c.in_ok-no_answers.ensures) (new_is_held c.args.rom.now)
