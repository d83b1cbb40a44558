use Rattle.std.proofs.Common.{arith}
use Rattle.packet_store.proofs.store.Store.new.Goals as goal

pub invariant_of-result : goal.invariant_of-result
invariant_of-result c = let e = c.new.ensures.last in record { sound = rw c.new.ensures.shelf tt; counted = omega arith }
