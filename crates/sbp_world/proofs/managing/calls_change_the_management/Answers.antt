use Rattle.sbp_world.proofs.Agents.Management.Calls.{management_law}
use Rattle.sbp_world.proofs.managing.calls_change_the_management.Goals as goal

-- src/laws.rt:7:1
pub returns : goal.returns
returns c = management_law
