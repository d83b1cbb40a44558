use Rattle.std.specs.Prelude.{◌≡◌}
use Rattle.sbp_bus.specs.Generations.{first_ids}
use Rattle.sbp_bus.proofs.generations.first_ids.Given as goal

abbrev pub invariant-loop-node : goal.invariant-loop-node
invariant-loop-node l = l.ids ≡ first_ids l.node
