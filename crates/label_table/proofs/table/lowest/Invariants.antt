use Rattle.std.specs.Prelude.{◌≡◌, drop}
use Rattle.label_table.specs.Table.{lowest_from}
use Rattle.label_table.proofs.table.lowest.Given as goal

abbrev pub invariant-loop-number : goal.invariant-loop-number
invariant-loop-number l = lowest_from l.number l.bytes (drop l.number l.places) ≡ lowest_from 0 l.bytes l.places
