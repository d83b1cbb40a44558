use Rattle.std.specs.Prelude.{◌≡◌, replicate}
use Rattle.rbc_disk.specs.Units.{new_unit}
use Rattle.target_base.proofs.beginning.new_units.Given as goal

abbrev pub invariant-loop : goal.invariant-loop
invariant-loop l = l.list.items ≡ replicate l.counter new_unit
