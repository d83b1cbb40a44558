use Rattle.mgmt_agent.proofs.Rows.{decided_by_first_row}
use Rattle.mgmt_agent.proofs.law.decided_by_first_row.Goals as goal

pub returns : goal.returns
returns c = decided_by_first_row
