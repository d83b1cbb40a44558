use Rattle.std.specs.Prelude.{◌≡◌, replicate}
use Rattle.label_table.specs.Table.{unused}
use Rattle.label_table.proofs.table.Labels.new.Given as goal

abbrev pub invariant-loop : goal.invariant-loop
invariant-loop l = l.places.items ≡ replicate l.counter unused
