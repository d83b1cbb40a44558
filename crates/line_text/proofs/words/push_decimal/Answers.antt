-- A number below ten is one digit.
use Rattle.std.proofs.lemmas.Fmt.{decimal_digit}
use Rattle.line_text.proofs.words.push_decimal.Goals as goal

pub returns-then-number-lt10 : goal.returns-then-number-lt10
returns-then-number-lt10 c = rw (decimal_digit c.args.number c.if-number-lt10.true) c.push.ensures.ok
