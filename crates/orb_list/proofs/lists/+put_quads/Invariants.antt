use Rattle.std.proofs.Common.{◌-◌}
use Rattle.orb_list.proofs.lists.+put_quads.Given as goal

abbrev pub decreases-put_quads : goal.decreases-put_quads
decreases-put_quads l = 32 - l.at
