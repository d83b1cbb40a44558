use Rattle.rbc_disk.proofs.ReadLemmas.{reads_what_was_put}
use Rattle.rbc_disk.proofs.laws.reads_what_was_put.Goals as goal

pub returns : goal.returns
returns c = reads_what_was_put
