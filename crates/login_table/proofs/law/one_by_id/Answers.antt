use Rattle.login_table.proofs.Laws.{one_by_id}
use Rattle.login_table.proofs.law.one_by_id.Goals as goal

pub returns : goal.returns
returns c = one_by_id
