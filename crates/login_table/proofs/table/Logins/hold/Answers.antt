use Rattle.login_table.proofs.Kept.{hold_kept}
use Rattle.login_table.proofs.table.Logins.hold.Goals as goal

pub invariant_of-self : goal.invariant_of-self
invariant_of-self c = rw c.hold_all.ensures (hold_kept (record { last = c.self.inside.last; places = c.self.inside.places }) c.self.invariant)
