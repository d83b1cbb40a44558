use Rattle.login_table.proofs.Listed.{ticks_tell_the_ends}
use Rattle.login_table.proofs.law.ticks_tell_the_ends.Goals as goal

pub returns : goal.returns
returns c = ticks_tell_the_ends
