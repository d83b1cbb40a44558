use Rattle.label_table.proofs.Relabelled.{relabelled_law}
use Rattle.label_table.proofs.law.label_respelled.Goals as goal

pub returns : goal.returns
returns c = relabelled_law
