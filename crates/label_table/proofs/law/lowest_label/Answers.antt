use Rattle.label_table.proofs.Laws.{lowest_law}
use Rattle.label_table.proofs.law.lowest_label.Goals as goal

pub returns : goal.returns
returns c = lowest_law
