use Rattle.std.specs.Prelude.{◌≡◌, length, take, replicate}
use Rattle.label_table.specs.Filter.{no_source}
use Rattle.label_table.proofs.filter.Seen.clear.Given as goal

abbrev pub invariant-loop-place : goal.invariant-loop-place
invariant-loop-place l = record {
  size : length l.self-inside.sources.items ≡ 5;
  done : take l.place l.self-inside.sources.items ≡ replicate l.place no_source;
}
