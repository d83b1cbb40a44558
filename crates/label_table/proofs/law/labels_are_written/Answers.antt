use Rattle.label_table.proofs.Rewritten.{writes_labels}
use Rattle.label_table.proofs.law.labels_are_written.Goals as goal

pub returns : goal.returns
returns c = writes_labels
