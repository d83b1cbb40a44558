use Rattle.journal_text.proofs.Feeds.{note_line, trace_of_text}
use Rattle.journal_text.proofs.laws.text_is_of_lines.Goals as goal

pub returns-clause-lines : goal.returns-clause-lines
returns-clause-lines c = note_line

pub returns-clause-trace : goal.returns-clause-trace
returns-clause-trace c = trace_of_text
