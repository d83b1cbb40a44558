use Rattle.std.proofs.Common.{refl}
use Rattle.drill_text.specs.Tally.{tally_of}
use Rattle.drill_text.proofs.tally.Tally.new.Goals as goal

pub returns : goal.returns
unfolding tally_of
returns c = refl
