-- What the media hold after some notes, with their counts of faults, by the notes alone (RBC). A command that ran on a unit leaves of its
-- medium what the plain disk says, and raises its count of faults where it ended with the check of a medium call that failed. No other note
-- changes either.
use Rattle.std.specs.Prelude.{◌≡◌, ℕ, List, [], ◌∷◌, map, slice_index, slice_set, Option}
use Rattle.rbc_command.specs.declared.sense.Sense.{Sense}
use Rattle.rbc_disk.specs.Disk.{Disk, disk_at}
use Rattle.rbc_disk.specs.Held.{Held, held}
use Rattle.rbc_disk.specs.Runs.{count_after_run, medium_after}
use Rattle.rbc_disk.specs.Units.{PlainDisk}
use Rattle.sbp_journal.specs.Run.{Moment, asked, said}
use Rattle.sbp_journal.specs.declared.note.Note.{Note}
use Rattle.sbp_journal.specs.declared.note.Note.TheVariants as notes
use Rattle.sbp_laws.specs.Targets.{target_at}

-- a command ran on a unit with these bytes of data, and ended with this check, or with none
abbrev pub run_on : (cdb bytes : List ℕ) → Option Sense → (unit : ℕ) → Held → Held
run_on cdb bytes check unit media =
    held
    (slice_set media.disks unit (medium_after cdb bytes check (disk_at media.disks unit)))
    (slice_set media.faults unit (count_after_run check (slice_index media.faults unit)))

abbrev pub left_by_note : Note → Held → Held
left_by_note (notes.Ran i list number unit cdb bytes check) media = run_on cdb bytes check unit media
left_by_note _ media = media

-- the media after some notes, the latest one first
abbrev pub media_after : List Note → Held → Held
media_after [] media = media
media_after (note ∷ before) media = left_by_note note (media_after before media)

-- ---- the disk fold of the laws says the same

-- the notes of a history, the latest one first
abbrev pub notes_in : List Moment → List Note
notes_in [] = []
notes_in (asked line event ∷ past) = notes_in past
notes_in (said note ∷ past) = note ∷ notes_in past

abbrev pub media_of : List PlainDisk → List Disk
media_of units = map (λ (p : PlainDisk). p.medium) units

-- In every history, whatever it says, the units hold what its notes leave of what they held at the start.
abbrev pub MediaFoldLaw : Type 0
MediaFoldLaw = (start : List Disk) (faults : List ℕ) (past : List Moment) → media_of (target_at start past).units ≡ (media_after (notes_in past) (held start faults)).disks
