-- The events and the notes of a run of the machine, in their order.
use Rattle.std.specs.Prelude.{◌≡◌, ℕ, ◌+◌, List, [], ◌∷◌, ◌++◌, length, reverse}
use Rattle.rbc_disk.specs.Held.{Held}
use Rattle.sbp_journal.specs.declared.event.Event.{Event}
use Rattle.sbp_journal.specs.declared.event.Event.TheVariants as events
use Rattle.sbp_journal.specs.declared.note.Note.{Note}
use Rattle.sbp_target.specs.Faults.{NoneFell}
use Rattle.sbp_world.specs.Making.{notes_begin}
use Rattle.sbp_world.specs.Runs.{Entry, Run}

-- the numbered events of some lines, in their order
abbrev pub events_in : List Entry → List (ℕ × Event)
events_in [] = []
events_in (entry ∷ before) = events_in before ++ (entry.line, entry.event) ∷ []

-- the notes of some lines, in their order
abbrev pub notes_in : List Entry → List Note
notes_in [] = []
notes_in (entry ∷ before) = notes_in before ++ reverse entry.notes

-- the line that begins a run, and those after it
abbrev pub events_of : ℕ → Run → List (ℕ × Event)
events_of line run = (line, events.Begin run.initiators run.ready) ∷ events_in run.entries

-- the note of the line that begins a run, and those of the lines after it
abbrev pub journal : Run → List Note
journal run = notes_begin run.initiators run.ready ∷ notes_in run.entries

-- the lines of a script, numbered from one on
abbrev pub numbered_from : ℕ → List Event → List (ℕ × Event)
numbered_from line [] = []
numbered_from line (event ∷ events) = (line, event) ∷ numbered_from (line + 1) events

-- A line that memory was wanting for leaves as many media, and no count of faults fell.
pub record MayLeave (old new : Held) : Type 0 where
  pub count : length new.disks ≡ length old.disks
  pub fell : NoneFell old.faults new.faults
