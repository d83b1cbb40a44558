use Rattle.label_table.proofs.Laws.{header_law}
use Rattle.label_table.proofs.law.label_alone.Goals as goal

pub returns : goal.returns
returns c = header_law
