-- The digits so far are written.
use Rattle.std.proofs.Common.{◌≡◌, ◌*◌, ◌++◌, take, drop}
use Rattle.hex.specs.Hex.{encode_upper}
use Rattle.line_text.proofs.words.copy_digits.Given as goal

abbrev pub invariant-loop-at : goal.invariant-loop-at
invariant-loop-at l = take (2 * l.at) l.digits ++ encode_upper (drop l.at l.bytes) ≡ encode_upper l.bytes
