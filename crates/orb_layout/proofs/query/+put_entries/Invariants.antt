use Rattle.std.proofs.Common.{length}
use Rattle.orb_layout.proofs.query.+put_entries.Given as goal

abbrev pub decreases-put_entries : goal.decreases-put_entries
decreases-put_entries l = length l.logins.now
