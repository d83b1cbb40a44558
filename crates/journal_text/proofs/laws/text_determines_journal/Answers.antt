use Rattle.journal_text.proofs.Journals.{bus_journals_determined, journals_determined}
use Rattle.journal_text.proofs.laws.text_determines_journal.Goals as goal

pub returns-clause-lawful : goal.returns-clause-lawful
returns-clause-lawful c = journals_determined

pub returns-clause-on_the_bus : goal.returns-clause-on_the_bus
returns-clause-on_the_bus c = bus_journals_determined
