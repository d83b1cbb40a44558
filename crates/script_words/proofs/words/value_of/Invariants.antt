-- What the rest of the digits makes of the number so far.
use Rattle.std.proofs.Common.{◌≡◌, ◌<◌, ◌^◌, drop, fold}
use Rattle.script_words.proofs.Numerals.{step}
use Rattle.script_words.specs.Words.{value}
use Rattle.script_words.proofs.words.value_of.Given as goal

abbrev pub invariant-loop-digit : goal.invariant-loop-digit
invariant-loop-digit l = record {
  fits : l.number < 2 ^ 32;
  rest : fold step l.number (drop l.digit-index l.digits) ≡ value l.digits;
}
