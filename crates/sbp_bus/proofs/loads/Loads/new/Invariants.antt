use Rattle.std.specs.Prelude.{◌≡◌, replicate}
use Rattle.sbp_bus.specs.Loads.{new_load}
use Rattle.sbp_bus.proofs.loads.Loads.new.Given as goal

abbrev pub invariant-loop : goal.invariant-loop
invariant-loop l = l.each.items ≡ replicate l.counter new_load
