-- The history of a run of the machine.
use Rattle.std.specs.Prelude.{ℕ, List, [], ◌∷◌, ◌++◌, map}
use Rattle.sbp_journal.specs.Run.{Moment, asked, said}
use Rattle.sbp_journal.specs.declared.event.Event.TheVariants as events
use Rattle.sbp_journal.specs.declared.note.Note.{Note}
use Rattle.sbp_world.specs.Making.{notes_begin}
use Rattle.sbp_world.specs.Runs.{Entry, Run}

-- the notes of some lines, the latest one first
abbrev pub notes_behind : List Entry → List Note
notes_behind [] = []
notes_behind (e ∷ before) = e.notes ++ notes_behind before

-- the moments of some lines of a run that began with the line of this number
abbrev pub moments_behind : (line : ℕ) → Run → List Entry → List Moment
moments_behind line run [] = said (notes_begin run.initiators run.ready) ∷ asked line (events.Begin run.initiators run.ready) ∷ []
moments_behind line run (e ∷ before) = map said e.notes ++ asked e.line e.event ∷ moments_behind line run before

-- its history
abbrev pub history_of : (line : ℕ) → Run → List Moment
history_of line run = moments_behind line run run.entries
