use Rattle.sbp_laws.proofs.ExecutionTries as tries
use Rattle.sbp_laws.proofs.tried.execution_law_tried.Goals as goal

pub returns : goal.returns
returns c = tries.tried
