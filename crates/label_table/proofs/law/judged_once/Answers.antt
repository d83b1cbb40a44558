use Rattle.label_table.proofs.Course.{once_always}
use Rattle.label_table.proofs.law.judged_once.Goals as goal

pub returns : goal.returns
returns c = once_always
