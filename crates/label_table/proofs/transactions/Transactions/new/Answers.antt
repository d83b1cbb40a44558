use Rattle.label_table.proofs.Layers.{new_sound}
use Rattle.label_table.proofs.transactions.Transactions.new.Goals as goal

pub invariant_of-result : goal.invariant_of-result
invariant_of-result g c = new_sound _ _ c.in_ok-new_peers.ensures c.in_ok-new.ensures
