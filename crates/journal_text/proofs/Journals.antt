-- The notes of a lawful run are determined by their text.
use Rattle.std.proofs.Common.{◌≡◌, ℕ, Bool, List, [], ◌∷◌, ◌++◌, map, reverse}
use Rattle.std.specs.List.{AllByRecursion}
use Rattle.sbp_journal.specs.Run.{Run, Entry, Moment, asked, said, history, journal, notes_of}
use Rattle.sbp_journal.specs.Text.{text_of}
use Rattle.sbp_journal.specs.Written.{IsWritten}
use Rattle.sbp_journal.specs.declared.note.Note.{Note}
use Rattle.sbp_journal.proofs.Each.{all_append, all_reverse}
use Rattle.sbp_laws.specs.Lawful.{FormAt, LawfulBut}
use Rattle.sbp_laws.specs.OnTheBus.{LawfulOnTheBus}
use Rattle.sbp_laws.specs.Turns.{EachMoment}
use Rattle.journal_text.proofs.TextsBack.{texts_determine}

-- what is said in moments is written
written_notes : (notes : List Note) (past : List Moment) → EachMoment FormAt (map said notes ++ past) → AllByRecursion IsWritten notes × EachMoment FormAt past
written_notes [] past h = (tt, h)
written_notes (note ∷ notes) past h = let rest = written_notes notes past h.1 in ((h.0, rest.0), rest.1)

written_entries : (entries : List Entry) → EachMoment FormAt (history entries) → AllByRecursion IsWritten (notes_of entries)
written_entries [] h = tt
written_entries (entry ∷ before) h =
    let rest = written_notes entry.notes (asked entry.line entry.event ∷ history before) h in
    all_append IsWritten (notes_of before) (reverse entry.notes) (written_entries before rest.1.1) (all_reverse IsWritten entry.notes rest.0)

pub journals_determined : (wild others : ℕ → Bool) (run other : Run) → LawfulBut wild run → LawfulBut others other → text_of (journal run) ≡ text_of (journal other) → journal run ≡ journal other
journals_determined wild others run other h k =
    texts_determine (journal run) (journal other) (written_entries run.entries h.moments.form) (written_entries other.entries k.moments.form)

pub bus_journals_determined : (wild others : ℕ → Bool) (run other : Run) → LawfulOnTheBus wild run → LawfulOnTheBus others other → text_of (journal run) ≡ text_of (journal other) → journal run ≡ journal other
bus_journals_determined wild others run other h k =
    texts_determine (journal run) (journal other) (written_entries run.entries h.form) (written_entries other.entries k.form)
