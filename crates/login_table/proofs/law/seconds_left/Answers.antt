use Rattle.login_table.proofs.Laws.{seconds_left}
use Rattle.login_table.proofs.law.seconds_left.Goals as goal

pub returns : goal.returns
returns c = seconds_left
