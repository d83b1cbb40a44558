use Rattle.login_table.proofs.Holding.{expires_after_its_seconds}
use Rattle.login_table.proofs.law.expires_after_its_seconds.Goals as goal

pub returns : goal.returns
returns c = expires_after_its_seconds
