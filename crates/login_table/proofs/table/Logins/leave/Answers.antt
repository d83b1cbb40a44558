use Rattle.login_table.proofs.Sound.{taken_out}
use Rattle.login_table.proofs.table.Logins.leave.Goals as goal

pub invariant_of-self : goal.invariant_of-self
invariant_of-self c = record { last = c.self.invariant.last; sound = taken_out c.self.inside.places c.in-Some.place c.self.invariant.sound }
