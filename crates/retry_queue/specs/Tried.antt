-- Journals of a queue that were worked out, which the parts of the law accept or refuse. The packets between are left out, since nothing
-- here reads them.
use Rattle.std.specs.Prelude.{◌≡◌, true, List, [], ◌∷◌, replicate}
use Rattle.orb_layout.specs.declared.status.StatusKind.TheVariants as kinds
use Rattle.rbc_disk.specs.Disk.{blank_bytes, blank_disk}
use Rattle.sbp_journal.specs.Run.{asked, said}
use Rattle.sbp_journal.specs.declared.event.Action.TheVariants as actions
use Rattle.sbp_journal.specs.declared.event.Event.TheVariants as events
use Rattle.sbp_journal.specs.declared.note.Note.TheVariants as notes
use Rattle.sbp_journal.specs.declared.note.NoteBuffer.TheVariants.{Nothing}
use Rattle.sbp_laws.specs.Actions.{buffer_of}
use Rattle.retry_queue.specs.Steps.{EachStep, Step, Submission, command_for, idled, of_world, submissions, submitted, told}
use Rattle.retry_queue.specs.Known.{known}
use Rattle.retry_queue.specs.Journals.{FollowsAt, IsJournal, MadeAt}
use Rattle.retry_queue.specs.Parts.{AreFront, ConsecutiveAt, IsAllWritten, WaitsAt}

-- ---- a run begins, a write is submitted, a pump appends it, and its status is taken and told

abbrev pub first_write : Submission
first_write = record { lba = 0; bytes = replicate 512 0xAA }

abbrev pub asks : Step
asks = of_world (asked 3 (events.Act 0 (actions.Append (command_for first_write))))

abbrev pub appended : Step
appended = of_world (said (notes.Append 0 0 0 (command_for first_write).cdb (buffer_of (command_for first_write))))

abbrev pub begun : List Step
begun =
    submitted first_write.lba first_write.bytes
    ∷ of_world (said (notes.Begin 1 true))
    ∷ of_world (asked 1 (events.Begin 1 true))
    ∷ []

abbrev pub whole : List Step
whole = told 0 kinds.Good ∷ of_world (said (notes.Taken 0 0 0 kinds.Good [])) ∷ appended ∷ asks ∷ begun

-- ---- others that differ from it

-- the ORB has no data
abbrev pub without_data : List Step
without_data = of_world (said (notes.Append 0 0 0 (command_for first_write).cdb Nothing)) ∷ asks ∷ begun

-- behind a failed status the list gets an ORB more
abbrev pub dead_list_goes_on : List Step
dead_list_goes_on = asks ∷ of_world (said (notes.Taken 0 0 0 kinds.Failed [])) ∷ appended ∷ asks ∷ begun

-- the second ORB has its status, and the first one not
abbrev pub second_comes_first : List Step
second_comes_first = of_world (said (notes.Taken 0 0 1 kinds.Good [])) ∷ appended ∷ asks ∷ begun

-- a pump is idle, though a submission waits
abbrev pub idle_too_soon : List Step
idle_too_soon = idled ∷ begun

-- the status of another submission is told
abbrev pub other_told : List Step
other_told = told 1 kinds.Good ∷ of_world (said (notes.Taken 0 0 0 kinds.Good [])) ∷ appended ∷ asks ∷ begun

-- a status is not told
abbrev pub untold : List Step
untold = idled ∷ of_world (said (notes.Taken 0 0 0 kinds.Good [])) ∷ appended ∷ asks ∷ begun

-- The laws accept the whole journal and refuse the others; and without a run the medium is not that of the submission.
pub record QueueTried : Type 0 where
  pub accepts : IsJournal whole
  pub all : (known whole).done ≡ submissions whole
  pub without_data : EachStep ConsecutiveAt without_data → ⊥
  pub dead_list_goes_on : EachStep WaitsAt dead_list_goes_on → ⊥
  pub second_comes_first : AreFront second_comes_first → ⊥
  pub idle_too_soon : EachStep MadeAt idle_too_soon → ⊥
  pub other_told : EachStep MadeAt other_told → ⊥
  pub untold : EachStep FollowsAt untold → ⊥
  pub unwritten : IsAllWritten whole (blank_disk 1 0) (blank_bytes 1 0) → ⊥
