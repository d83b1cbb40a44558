use Rattle.label_table.proofs.Last.{last_law}
use Rattle.label_table.proofs.law.last_request_decides.Goals as goal

pub returns : goal.returns
returns c = last_law
