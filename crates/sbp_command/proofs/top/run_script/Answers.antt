-- The script is run as its lines were served.
use Rattle.sbp_command.proofs.Endings.{run_ends}
use Rattle.sbp_command.proofs.top.run_script.Goals as goal

pub returns : goal.returns
returns g c = rw c.status_of.ensures (run_ends c.serve_script.result _ _ c.serve_script.ensures)
