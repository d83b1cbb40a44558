use Rattle.label_table.proofs.Layers.{sound_remembered}
use Rattle.label_table.proofs.transactions.Transactions.remember.Goals as goal

pub invariant_of-self : goal.invariant_of-self
invariant_of-self g c = rw c.remember_if_room.ensures (sound_remembered _ _ _ _ _ _ c.self.invariant c.requires.rcode)
