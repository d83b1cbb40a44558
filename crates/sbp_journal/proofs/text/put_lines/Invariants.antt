-- The lines of the notes so far are added.
use Rattle.std.proofs.Common.{◌≡◌, ◌++◌, take}
use Rattle.sbp_journal.specs.Text.{text_of}
use Rattle.sbp_journal.proofs.text.put_lines.Given as goal

abbrev pub invariant-loop-note : goal.invariant-loop-note
invariant-loop-note l = record {
  so_far : l.out ++ l.room ≡ l.initial.out ++ l.initial.room ++ text_of (take l.note-index l.notes);
}
