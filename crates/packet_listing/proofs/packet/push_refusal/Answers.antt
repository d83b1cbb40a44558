-- The last fault has its fields.
use Rattle.packet_listing.proofs.packet.push_refusal.Goals as goal

pub returns-in-LockLength : goal.returns-in-LockLength
returns-in-LockLength c = rw c.in-LockLength.is (rw c.from-in-LockLength.ensures at c.push_fault-in-LockLength.ensures)
