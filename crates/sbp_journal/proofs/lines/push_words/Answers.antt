use Rattle.std.proofs.Common.{refl}
use Rattle.sbp_journal.proofs.lines.push_words.Goals as goal

pub returns-in-Unsolicited : goal.returns-in-Unsolicited
returns-in-Unsolicited c = rw (c.in-Unsolicited.is, c.push_one-in-Unsolicited.ensures, c.from-in-Unsolicited.ensures) refl
