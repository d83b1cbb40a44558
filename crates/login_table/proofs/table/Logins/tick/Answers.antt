use Rattle.login_table.proofs.Kept.{tick_kept}
use Rattle.login_table.proofs.table.Logins.tick.Goals as goal

pub invariant_of-self : goal.invariant_of-self
invariant_of-self c = rw c.tick_all.ensures.places (tick_kept (record { last = c.self.inside.last; places = c.self.inside.places }) c.self.invariant)
