use Rattle.rbc_disk.proofs.AttentionLemmas.{marks_owed}
use Rattle.rbc_disk.proofs.laws.marked_until_told.Goals as goal

pub returns : goal.returns
returns c = marks_owed
