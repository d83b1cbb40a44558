use Rattle.sbp_laws.proofs.Added as proofs
use Rattle.sbp_laws.proofs.laws.lawful_entry_by_entry.Goals as goal

pub returns : goal.returns
returns c = proofs.adds_lawfully
