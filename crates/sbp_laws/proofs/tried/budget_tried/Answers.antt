use Rattle.sbp_laws.proofs.BudgetTries as tries
use Rattle.sbp_laws.proofs.tried.budget_tried.Goals as goal

pub returns : goal.returns
returns c = tries.tried
