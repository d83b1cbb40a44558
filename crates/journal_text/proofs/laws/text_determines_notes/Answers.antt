use Rattle.journal_text.proofs.TextsBack.{texts_determine}
use Rattle.journal_text.proofs.laws.text_determines_notes.Goals as goal

pub returns : goal.returns
returns c = texts_determine
