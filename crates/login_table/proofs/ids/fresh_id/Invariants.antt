use Rattle.std.specs.Prelude.{◌≡◌, ◌-◌}
use Rattle.login_table.specs.Table.{fresh_id, next_id}
use Rattle.login_table.proofs.ids.fresh_id.Given as goal

abbrev pub invariant-loop-tries : goal.invariant-loop-tries
invariant-loop-tries l = fresh_id (8 - l.tries) l.login l.places ≡ fresh_id 8 (next_id l.fn.last) l.places
