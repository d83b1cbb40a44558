-- The last four digits stand behind those of the front.
use Rattle.std.proofs.Common.{arith, ◌%◌, ◌/◌, append_assoc}
use Rattle.std.specs.Fmt.{decimal}
use Rattle.line_text.proofs.Decimals.{four, front_and_four}
use Rattle.line_text.proofs.room.Room.push_decimal.Goals as goal

pub returns-then-number-lt100000000-clause-text : goal.returns-then-number-lt100000000-clause-text
returns-then-number-lt100000000-clause-text c =
    let low = c.if-number-lt10000.false in
    rw (c.push.ensures.text, c.push_short-then-number-lt100000000.ensures.text, c.two_pairs.ensures, front_and_four c.args.number (omega (arith, low)) c.ranges.number.fits)
    (append_assoc c.args.self.now (decimal (c.args.number / 10000)) (four (c.args.number % 10000)))
