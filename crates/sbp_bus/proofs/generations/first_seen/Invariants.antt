use Rattle.std.specs.Prelude.{◌≡◌, replicate}
use Rattle.sbp_bus.specs.Generations.{first_topology}
use Rattle.sbp_bus.proofs.generations.first_seen.Given as goal

abbrev pub invariant-loop : goal.invariant-loop
invariant-loop l = l.seen.items ≡ replicate l.counter (first_topology l.nodes)
