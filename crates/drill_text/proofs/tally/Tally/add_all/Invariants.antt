-- The notes so far were counted.
use Rattle.std.proofs.Common.{◌≡◌, ◌++◌, List, take}
use Rattle.sbp_journal.specs.declared.note.Note.{Note}
use Rattle.drill_text.specs.Tally.{tally_of}
use Rattle.drill_text.proofs.tally.Tally.add_all.Given as goal

abbrev pub invariant-loop-note : goal.invariant-loop-note
invariant-loop-note l = record {
  so_far : (before : List Note) → l.initial.self ≡ tally_of before → l.self ≡ tally_of (before ++ take l.note-index l.notes);
}
