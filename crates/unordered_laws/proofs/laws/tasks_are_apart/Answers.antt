use Rattle.unordered_laws.proofs.Apart.{apart, asks_in_turn}
use Rattle.unordered_laws.proofs.laws.tasks_are_apart.Goals as goal

pub returns-clause-apart : goal.returns-clause-apart
returns-clause-apart c = apart

pub returns-clause-asks : goal.returns-clause-asks
returns-clause-asks c = asks_in_turn
