use Rattle.std.specs.Prelude.{◌≡◌, ◌+◌, length, take, replicate}
use Rattle.label_table.specs.Table.{unused}
use Rattle.label_table.proofs.table.Labels.clear.Given as goal

abbrev pub invariant-loop-number : goal.invariant-loop-number
invariant-loop-number l = record {
  size : length l.self-inside.places.items ≡ 64;
  done : take l.number l.self-inside.places.items ≡ replicate l.number unused;
  generation : l.self-inside.generation ≡ l.fn.generation;
  calls : l.self-inside.calls ≡ l.fn.self.calls + 1;
}
