use Rattle.label_table.proofs.Laws.{crowded_law}
use Rattle.label_table.proofs.law.crowded_by_others.Goals as goal

pub returns : goal.returns
returns c = crowded_law
