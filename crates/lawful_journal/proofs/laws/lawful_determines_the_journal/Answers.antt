use Rattle.lawful_journal.proofs.Journal as proofs
use Rattle.lawful_journal.proofs.laws.lawful_determines_the_journal.Goals as goal

pub returns : goal.returns
returns c = proofs.runs_are_determined
