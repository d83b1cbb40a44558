use Rattle.login_table.proofs.Laws.{calls_in_turn}
use Rattle.login_table.proofs.law.calls_in_turn.Goals as goal

pub returns : goal.returns
returns c = calls_in_turn
