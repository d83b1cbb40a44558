use Rattle.unordered_laws.proofs.States.{state_told, points_in_time}
use Rattle.unordered_laws.proofs.laws.calls_keep_state.Goals as goal

pub returns-clause-state : goal.returns-clause-state
returns-clause-state c = state_told

pub returns-clause-point : goal.returns-clause-point
returns-clause-point c = points_in_time
