use Rattle.std.proofs.Common.{arith}
use Rattle.std.proofs.lemmas.Grind.{common_steps}
use Rattle.label_table.proofs.Layers.{sound_seen}
use Rattle.label_table.proofs.transactions.Transactions.see.Goals as goal

pub invariant_of-self : goal.invariant_of-self
invariant_of-self g c = sound_seen c.args.generation _ c.self.inside.peers.items _ c.self.inside.seen _ c.self.invariant (grind (arith, common_steps)) c.clear.ensures
