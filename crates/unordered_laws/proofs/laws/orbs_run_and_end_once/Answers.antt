use Rattle.unordered_laws.proofs.Runs.{calls_lawful}
use Rattle.unordered_laws.proofs.laws.orbs_run_and_end_once.Goals as goal

pub returns : goal.returns
returns c = calls_lawful
