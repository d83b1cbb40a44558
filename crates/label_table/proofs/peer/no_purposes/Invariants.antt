use Rattle.std.specs.Prelude.{◌≡◌, replicate, None}
use Rattle.label_table.proofs.peer.no_purposes.Given as goal

abbrev pub invariant-loop : goal.invariant-loop
invariant-loop g l = l.purposes.items ≡ replicate l.counter None
