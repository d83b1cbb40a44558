-- Both digits stand in the table.
use Rattle.std.proofs.Common.{refl}
use Rattle.line_text.proofs.Decimals.{tens_at, ones_at}
use Rattle.line_text.proofs.pairs.pair.Goals as goal

pub returns : goal.returns
returns c = rw (c.pairs-pairs.ensures, c.from-at.ensures, tens_at c.args.number c.requires, ones_at c.args.number c.requires) refl
