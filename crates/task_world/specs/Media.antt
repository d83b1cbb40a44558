-- What a run of the task machine leaves of the media, of which the first is that of the unit.
use Rattle.std.specs.Prelude.{◌≡◌, ℕ, List, [], ◌∷◌, ◌++◌, slice_index, slice_set}
use Rattle.rbc_disk.specs.Disk.{disk_at}
use Rattle.rbc_disk.specs.Held.{Held, held}
use Rattle.sbp_journal.specs.declared.note.Note.{Note}
use Rattle.media_terms.specs.Media.{media_after, notes_in}
use Rattle.sbp_world.specs.Histories.{history_of, notes_behind}
use Rattle.sbp_world.specs.Making.{notes_begin}
use Rattle.sbp_world.specs.Runs.{Run}
use Rattle.task_world.specs.Making.{first_scene}
use Rattle.task_world.specs.Runs.{IsTaskRun, after}
use Rattle.task_world.specs.Worlds.{one_held}

-- the first of some media, with its count of faults
abbrev pub first_of : Held → Held
first_of media = one_held (disk_at media.disks 0) (slice_index media.faults 0)

-- the media, of which the first is so now
abbrev pub with_first : Held → Held → Held
with_first now media = held (slice_set media.disks 0 (disk_at now.disks 0)) (slice_set media.faults 0 (slice_index now.faults 0))

-- the unit's medium behind a run
abbrev pub left_by_run : Run → Held
left_by_run run = (after (first_scene run.start) run.entries).scene.media

-- the notes of a run, the latest one first
abbrev pub notes_of : Run → List Note
notes_of run = notes_behind run.entries ++ notes_begin run.initiators run.ready ∷ []

-- Whatever the media are and whatever the calls of the unit's answer, after a run of the task machine they hold what its notes leave of what they
-- held at the start: the unit's what the plain disk says of the commands that ran, and the others what they held; and the count of
-- faults of the unit's rose by the failing runs that the notes tell. So it is of the notes of the run, and of those of its history.
pub record TaskDisksLaw : Type 0 where
  pub notes : (run : Run) (media : Held) → IsTaskRun run → run.start ≡ first_of media → with_first (left_by_run run) media ≡ media_after (notes_of run) media
  pub history : (line : ℕ) (run : Run) (media : Held) → IsTaskRun run → run.start ≡ first_of media → with_first (left_by_run run) media ≡ media_after (notes_in (history_of line run)) media
