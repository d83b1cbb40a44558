-- The number so far is past 32 bits, and further digits do not lessen it.
use Rattle.std.proofs.Common.{◌^◌, ◌≤◌, arith}
use Rattle.std.proofs.lemmas.Grind.{common_steps}
use Rattle.script_words.proofs.Numerals.{past_range}
use Rattle.script_words.specs.Words.{value}
use Rattle.script_words.proofs.words.value_of.Goals as goal

pub returns-then-number-from : goal.returns-then-number-from
returns-then-number-from c =
    let past : 2 ^ 32 ≤ value c.args.digits.now = past_range c.loop-digit.number c.args.digits.now c.loop-digit.digit-index (value c.args.digits.now) (omega arith) c.loop-digit.invariant.rest (omega arith) in
    grind (arith, common_steps)
