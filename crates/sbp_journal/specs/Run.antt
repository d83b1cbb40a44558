-- A run: what the media hold at the start, and an entry for each line that was run.
use Rattle.std.specs.Prelude.{ℕ, List, [], ◌∷◌, ◌++◌, map, reverse}
use Rattle.rbc_disk.specs.Disk.{Disk}
use Rattle.sbp_journal.specs.declared.event.Event.{Event}
use Rattle.sbp_journal.specs.declared.note.Note.{Note}

-- a line's number, its event, and its notes, the latest one first
pub record Entry : Type 0 where
  pub line : ℕ
  pub event : Event
  pub notes : List Note

-- what each unit's medium holds at the start, and the entries, the latest one first
pub record Run : Type 0 where
  pub start : List Disk
  pub entries : List Entry

-- the run with one more entry
abbrev pub with_entry : Run → ℕ → Event → List Note → Run
with_entry run line event notes = record run { entries = record { line = line; event = event; notes = notes } ∷ run.entries }

-- the notes of all entries, in their order
abbrev pub notes_of : List Entry → List Note
notes_of [] = []
notes_of (entry ∷ before) = notes_of before ++ reverse entry.notes

abbrev pub journal : Run → List Note
journal run = notes_of run.entries

-- a moment of a run: a line, with its number, asked for an event, or a note was said
pub data Moment : Type 0 where
  asked : ℕ → Event → Moment
  said : Note → Moment

-- what was asked and what was said, the latest moment first: what stood before a moment is the rest of the list
abbrev pub history : List Entry → List Moment
history [] = []
history (entry ∷ before) = map said entry.notes ++ asked entry.line entry.event ∷ history before

-- the numbered events, in their order
abbrev pub events_in : List Entry → List (ℕ × Event)
events_in [] = []
events_in (entry ∷ before) = events_in before ++ (entry.line, entry.event) ∷ []

abbrev pub events_of : Run → List (ℕ × Event)
events_of run = events_in run.entries
