use Rattle.sbp_laws.proofs.RunsTries as tries
use Rattle.sbp_laws.proofs.tried.worked_runs_tried.Goals as goal

pub returns : goal.returns
returns c = tries.tried
