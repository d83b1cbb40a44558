-- The digits so far are added.
use Rattle.std.proofs.Common.{◌≡◌, ◌+◌, ◌≤◌, ◌++◌, length, take}
use Rattle.line_text.specs.Digits.{digits}
use Rattle.line_text.proofs.digits.gather.Given as goal

abbrev pub invariant-loop-byte : goal.invariant-loop-byte
invariant-loop-byte l = record {
  few : length l.digits ≤ length l.initial.digits + l.byte-index;
  so_far : l.digits ≡ l.initial.digits ++ digits (take l.byte-index l.line);
}
