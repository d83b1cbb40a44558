use Rattle.login_table.proofs.Holding.{live_until_it_leaves}
use Rattle.login_table.proofs.law.live_until_it_leaves.Goals as goal

pub returns : goal.returns
returns c = live_until_it_leaves
