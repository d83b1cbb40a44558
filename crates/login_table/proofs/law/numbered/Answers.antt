use Rattle.login_table.proofs.Laws.{numbered}
use Rattle.login_table.proofs.law.numbered.Goals as goal

pub returns : goal.returns
returns c = numbered
