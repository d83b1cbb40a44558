use Rattle.login_table.proofs.Holding.{held_for_its_seconds}
use Rattle.login_table.proofs.law.held_for_its_seconds.Goals as goal

pub returns : goal.returns
returns c = held_for_its_seconds
