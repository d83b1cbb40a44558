use Rattle.std.specs.Prelude.{◌≡◌, replicate}
use Rattle.label_table.specs.Filter.{no_request}
use Rattle.label_table.proofs.source.SourceRequests.new.Given as goal

abbrev pub invariant-loop : goal.invariant-loop
invariant-loop l = l.requests.items ≡ replicate l.counter no_request
