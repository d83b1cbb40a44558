use Rattle.std.specs.Prelude.{◌≡◌, replicate}
use Rattle.label_table.specs.Filter.{no_source}
use Rattle.label_table.proofs.filter.Seen.new.Given as goal

abbrev pub invariant-loop : goal.invariant-loop
invariant-loop l = l.sources.items ≡ replicate l.counter no_source
