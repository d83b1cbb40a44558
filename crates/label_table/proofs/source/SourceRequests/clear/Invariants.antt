use Rattle.std.specs.Prelude.{◌≡◌, length, take, replicate}
use Rattle.std.specs.Prelude.{None}
use Rattle.label_table.specs.Filter.{no_request}
use Rattle.label_table.proofs.source.SourceRequests.clear.Given as goal

abbrev pub invariant-loop-number : goal.invariant-loop-number
invariant-loop-number l = record {
  size : length l.self-inside.requests.items ≡ 64;
  done : take l.number l.self-inside.requests.items ≡ replicate l.number no_request;
  none : l.self-inside.source ≡ None;
}
