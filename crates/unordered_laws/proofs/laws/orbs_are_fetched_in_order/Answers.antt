use Rattle.unordered_laws.proofs.Order.{keep_order, read_in_order}
use Rattle.unordered_laws.proofs.laws.orbs_are_fetched_in_order.Goals as goal

pub returns-clause-order : goal.returns-clause-order
returns-clause-order c = keep_order

pub returns-clause-reads : goal.returns-clause-reads
returns-clause-reads c = read_in_order
