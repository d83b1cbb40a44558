-- The logins of the initiators before this one were entered.
use Rattle.std.proofs.Common.{◌≡◌, ◌-◌}
use Rattle.login_table.specs.Table.{new_table}
use Rattle.target_base.specs.Beginning.{ready_from}
use Rattle.target_base.proofs.beginning.ready_logins.Given as goal

abbrev pub invariant-loop-initiator : goal.invariant-loop-initiator
invariant-loop-initiator l = ready_from (l.ready - l.initiator) l.initiator l.logins ≡ ready_from l.ready 0 new_table
