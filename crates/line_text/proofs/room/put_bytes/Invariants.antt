-- The bytes so far are copied.
use Rattle.std.proofs.Common.{◌≡◌, take}
use Rattle.line_text.proofs.room.put_bytes.Given as goal

abbrev pub invariant-loop-at : goal.invariant-loop-at
invariant-loop-at l = take l.at l.to ≡ take l.at l.bytes
