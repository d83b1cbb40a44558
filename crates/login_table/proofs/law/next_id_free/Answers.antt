use Rattle.login_table.proofs.Laws.{next_id_free}
use Rattle.login_table.proofs.law.next_id_free.Goals as goal

pub returns : goal.returns
returns c = next_id_free
