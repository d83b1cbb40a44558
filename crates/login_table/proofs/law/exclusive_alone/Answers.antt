use Rattle.login_table.proofs.Laws.{exclusive_alone}
use Rattle.login_table.proofs.law.exclusive_alone.Goals as goal

pub returns : goal.returns
returns c = exclusive_alone
