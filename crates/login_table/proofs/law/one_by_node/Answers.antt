use Rattle.login_table.proofs.Laws.{one_by_node}
use Rattle.login_table.proofs.law.one_by_node.Goals as goal

pub returns : goal.returns
returns c = one_by_node
