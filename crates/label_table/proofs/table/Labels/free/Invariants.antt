use Rattle.std.specs.Prelude.{◌≡◌, ◌≤◌, take}
use Rattle.label_table.specs.Table.{count_free}
use Rattle.label_table.proofs.table.Labels.free.Given as goal

abbrev pub invariant-loop-place : goal.invariant-loop-place
invariant-loop-place l = record {
  counted : l.count ≡ count_free (take l.place-index l.self.places);
  most : l.count ≤ l.place-index;
}
