use Rattle.std.specs.Prelude.{◌≡◌, ◌++◌, map, take, drop}
use Rattle.login_table.specs.Table.{held}
use Rattle.login_table.proofs.places.hold_all.Given as goal

abbrev pub invariant-loop-place : goal.invariant-loop-place
invariant-loop-place l = l.places ≡ map held (take l.place-index l.initial.places) ++ drop l.place-index l.initial.places
