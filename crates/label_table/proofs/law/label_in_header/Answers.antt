use Rattle.label_table.proofs.Laws.{label_law}
use Rattle.label_table.proofs.law.label_in_header.Goals as goal

pub returns : goal.returns
returns c = label_law
