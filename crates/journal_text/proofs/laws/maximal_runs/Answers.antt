use Rattle.journal_text.proofs.MaximalRuns.{are_runs, no_other_runs}
use Rattle.journal_text.proofs.laws.maximal_runs.Goals as goal

pub returns-clause-are_runs : goal.returns-clause-are_runs
returns-clause-are_runs c = are_runs

pub returns-clause-no_others : goal.returns-clause-no_others
returns-clause-no_others c = no_other_runs
