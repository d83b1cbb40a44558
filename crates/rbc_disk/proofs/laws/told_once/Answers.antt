use Rattle.rbc_disk.proofs.AttentionLemmas.{attention_owed}
use Rattle.rbc_disk.proofs.laws.told_once.Goals as goal

pub returns : goal.returns
returns c = attention_owed
