use Rattle.sbp_laws.proofs.InTime as proofs
use Rattle.sbp_laws.proofs.laws.lists_read_in_time.Goals as goal

pub returns : goal.returns
returns c = proofs.in_time_law
