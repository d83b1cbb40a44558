use Rattle.std.specs.Prelude.{◌≡◌, replicate, take, None}
use Rattle.label_table.proofs.peer.forget.Given as goal

abbrev pub invariant-loop-purpose : goal.invariant-loop-purpose
invariant-loop-purpose g l = take l.purpose-index l.purposes ≡ replicate l.purpose-index None
