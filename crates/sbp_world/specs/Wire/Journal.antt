-- The run of a journal that a run of the machine is: the disks at the start, and for each line its event and its notes.
use Rattle.std.specs.Prelude.{ℕ, List, [], ◌∷◌}
use Rattle.sbp_journal.specs.Run as journal
use Rattle.sbp_journal.specs.declared.event.Event.TheVariants as events
use Rattle.sbp_world.specs.Making.{notes_begin}
use Rattle.sbp_world.specs.Runs.{Entry, Run}

abbrev pub journal_entry : Entry → journal.Entry
journal_entry e = record { line = e.line; event = e.event; notes = e.notes }

-- the line of this number begins the run
abbrev pub first_entry : (line : ℕ) → Run → journal.Entry
first_entry line run =
    record { line = line; event = events.Begin run.initiators run.ready; notes = notes_begin run.initiators run.ready ∷ [] }

abbrev pub journal_entries : (line : ℕ) → Run → List Entry → List journal.Entry
journal_entries line run [] = first_entry line run ∷ []
journal_entries line run (e ∷ before) = journal_entry e ∷ journal_entries line run before

abbrev pub journal_run : (line : ℕ) → Run → journal.Run
journal_run line run = record { start = run.start.disks; entries = journal_entries line run run.entries }
