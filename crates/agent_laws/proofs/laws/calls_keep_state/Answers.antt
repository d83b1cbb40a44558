-- What state an agent is in behind its calls.
use Rattle.agent_laws.proofs.Lists.{under_way, suspended_at_end, mark_kept}
use Rattle.agent_laws.proofs.laws.calls_keep_state.Goals as goal

pub returns-clause-under_way : goal.returns-clause-under_way
returns-clause-under_way c = under_way

pub returns-clause-suspended : goal.returns-clause-suspended
returns-clause-suspended c = suspended_at_end

pub returns-clause-mark : goal.returns-clause-mark
returns-clause-mark c = mark_kept
