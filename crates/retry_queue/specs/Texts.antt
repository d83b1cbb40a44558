-- The text of a queue's note: that of its world's note, or one line of words, separated by single blanks.
use Rattle.std.specs.Prelude.{ℕ, List, [], ◌∷◌, ◌++◌, codes}
use Rattle.std.specs.List.{flat_map}
use Rattle.line_text.specs.Fields.{Field, number, bytes, rest_of_line}
use Rattle.orb_layout.specs.declared.status.StatusKind.{StatusKind}
use Rattle.sbp_journal.specs.Form as journal_form
use Rattle.sbp_journal.specs.Text as journal_text
use Rattle.retry_queue.specs.declared.note.QueueNote.{QueueNote}
use Rattle.retry_queue.specs.declared.note.QueueNote.TheVariants.{World, Submit, Idle, Written}

abbrev pub submit_fields : ℕ → ℕ → List ℕ → List Field
submit_fields q lba bs = number q ∷ number lba ∷ bytes bs ∷ []

abbrev pub written_fields : ℕ → StatusKind → List Field
written_fields q status = number q ∷ journal_text.status_fields status

abbrev pub line_text : List ℕ → List Field → List ℕ
line_text word fields = word ++ rest_of_line fields

abbrev pub note_text : QueueNote → List ℕ
note_text (World note) = journal_text.note_text note
note_text (Submit q lba content) = line_text (codes "submit") (submit_fields q lba content)
note_text Idle = line_text (codes "idle") []
note_text (Written q status) = line_text (codes "written") (written_fields q status)

abbrev pub text_of : List QueueNote → List ℕ
text_of notes = flat_map note_text notes

-- The form that each note of a queue has; a text of notes in this form can be read back.
abbrev pub HasForm : QueueNote → Type 0
HasForm (World note) = journal_form.HasForm note
HasForm (Submit q lba content) = Unit {0}
HasForm Idle = Unit {0}
HasForm (Written q status) = journal_form.IsStatus status
