-- A queue: its world, what it keeps of that world's notes, the writes that were submitted, and the notes of the last call; and the journals
-- that it stands for.
use Rattle.std.specs.Prelude.{◌≡◌, ◌≤◌, ℕ, true, List, [], ◌∷◌, ◌++◌, drop, length, map, Option, Some, None}
use Rattle.std.specs.List.{AllByRecursion, slice_get}
use Rattle.std.specs.Option.{option_map}
use Rattle.byteorder.specs.Endian.{big_number}
use Rattle.rbc_disk.specs.Disk.{Disk}
use Rattle.rbc_disk.specs.Held.{Held, held}
use Rattle.rbc_disk.specs.Runs.{Told}
use Rattle.sbp_journal.specs.Run.{said, asked}
use Rattle.sbp_journal.specs.declared.event.Action.{Action}
use Rattle.sbp_journal.specs.declared.event.Action.TheVariants as actions
use Rattle.sbp_journal.specs.declared.event.Event.{Event}
use Rattle.sbp_journal.specs.declared.event.Event.TheVariants as events
use Rattle.sbp_world.specs.FitInitiator.{BytesCommand}
use Rattle.sbp_world.specs.Forms.{AreTyped}
use Rattle.sbp_world.specs.Histories.{history_of}
use Rattle.sbp_world.specs.Making.{notes_begin}
use Rattle.sbp_world.specs.Runs.{Run, entry, with_entry}
use Rattle.sbp_world.specs.Wire.Keeping.{StandsLawfully}
use Rattle.sbp_world.specs.Wire.Lines.{AreLines}
use Rattle.sbp_world.specs.Worlds.{Scene, WorldState}
use Rattle.retry_queue.specs.declared.note.QueueNote.{QueueNote}
use Rattle.retry_queue.specs.declared.note.QueueNote.TheVariants.{World, Submit, Idle, Written}
use Rattle.retry_queue.specs.declared.pump.Row.{Row}
use Rattle.retry_queue.specs.declared.pump.Row.TheVariants as rows
use Rattle.retry_queue.specs.Journals.{IsSubmission}
use Rattle.retry_queue.specs.Kept.{Kept, asked_by, kept, told}
use Rattle.retry_queue.specs.Pump.{append_of, row}
use Rattle.retry_queue.specs.Steps.{Step, of_world, submitted, idled, Submission, command_for, world}
use Rattle.retry_queue.specs.Steps as steps

pub record QueueState : Type 0 where
  pub world : WorldState
  pub kept : Kept
  pub submissions : List Submission
  pub fresh : List QueueNote

-- a queue, and what its media hold with their counts of faults
pub record QueueScene : Type 0 where
  pub queue : QueueState
  pub media : Held

abbrev pub queue_scene : QueueState → List Disk → List ℕ → QueueScene
queue_scene queue disks faults = record { queue = queue; media = held disks faults }

abbrev pub world_scene : QueueScene → Scene
world_scene s = record { world = s.queue.world; media = s.media }

-- ---- submissions

abbrev pub submission : ℕ → List ℕ → Submission
submission lba bytes = record { lba = lba; bytes = bytes }

-- the queue's initiator acts
abbrev pub own : Action → Event
own action = events.Act 0 action

-- a write as the event of its append, and the write of such an event
abbrev pub append_event : Submission → Event
append_event write = own (actions.Append (command_for write))

abbrev pub submission_in : Event → Submission
submission_in (events.Act i (actions.Append cmd)) = submission (big_number 4 (drop 2 cmd.cdb)) cmd.payload
submission_in event = submission 0 []

abbrev pub with_submission : ℕ → List ℕ → QueueState → QueueState
with_submission lba bytes queue = record queue {
  submissions = queue.submissions ++ submission lba bytes ∷ [];
  fresh = Submit (length queue.submissions) lba bytes ∷ [];
}

-- the writes of a journal, in their order
abbrev pub writes : List Step → List Submission
writes [] = []
writes (submitted lba bytes ∷ past) = writes past ++ submission lba bytes ∷ []
writes (_ ∷ past) = writes past

-- ---- a pump

abbrev pub action_in : Row → Option Submission → Option Action
action_in rows.Idle write = None
action_in (rows.Act action) write = Some action
action_in rows.Append write = append_of write

-- the event of a pump's line, or none
abbrev pub pumped : Kept → List Submission → Option Event
pumped kept submissions = option_map own (row kept.is_busy kept.session kept.is_dead (slice_get submissions kept.next))

-- ---- the journals that a queue stands for

abbrev pub step_of : QueueNote → Step
step_of (World note) = of_world (said note)
step_of (Submit number lba bytes) = submitted lba bytes
step_of Idle = idled
step_of (Written number status) = steps.told number status

-- the steps of a line behind a journal: what it asked for, and its notes, the latest one first
abbrev pub behind : List Step → ℕ → Event → List QueueNote → List Step
behind past line event fresh = map step_of fresh ++ of_world (asked line event) ∷ past

-- A queue and its media stand for a journal and for a run of its world, of one initiator and with the lines of a script, whose history that
-- of the journal is.
pub record QueueStands (past : List Step) (run : Run) (s : QueueScene) : Type 0 where
  pub line : ℕ
  pub history : world past ≡ history_of line run
  pub one : run.initiators ≡ 1
  pub lines : AreLines run run.entries
  pub typed : AllByRecursion AreTyped run.entries
  pub stands : StandsLawfully run (world_scene s)
  pub keeps : s.queue.kept ≡ kept past
  pub submissions : s.queue.submissions ≡ writes past

-- the run before any line after `begin`, and the journal of that line
abbrev pub first_run : ℕ → Held → Run
first_run units start = record { initiators = 1; ready = true; units = units; start = start; entries = [] }

abbrev pub first_steps : ℕ → List Step
first_steps line = behind [] line (events.Begin 1 true) (World (notes_begin 1 true) ∷ [])

abbrev pub queue_over : QueueState → Held → QueueScene
queue_over queue media = record { queue = queue; media = media }

-- A new queue stands for the journal of that line, over any media.
abbrev pub Begins : ℕ → QueueState → Type 0
Begins units queue = (line : ℕ) (start : Held) → QueueStands (first_steps line) (first_run units start) (queue_over queue start)

-- A write is submitted: it comes behind the others, and is told.
pub record Submits (lba : ℕ) (bytes : List ℕ) (old new : QueueState) : Type 0 where
  pub is : new ≡ with_submission lba bytes old
  pub goes_on : (past : List Step) (run : Run) (media : Held) → QueueStands past run (queue_over old media) → QueueStands (submitted lba bytes ∷ past) run (queue_over new media)

-- It stands for a journal with the steps of a line more, and for a run with its entry more.
pub record GoesOn (past : List Step) (run : Run) (line : ℕ) (event : Event) (s : QueueScene) : Type 0 where
  pub ran : List (Option Told)
  pub stands : QueueStands (behind past line event s.queue.fresh) (with_entry run (entry line event ran s.queue.world.fresh)) s

-- A line of this event: what the queue told are the notes of its world, with each `written` behind its `taken`; and each journal and run that
-- it stood for goes on by the line.
pub record RunsLine (line : ℕ) (event : Event) (old new : QueueScene) : Type 0 where
  pub tells : new.queue.fresh ≡ told (asked_by event) new.queue.world.fresh old.queue.kept
  pub goes_on : (past : List Step) (run : Run) → QueueStands past run old → GoesOn past run line event new

-- A line without an event: the queue is idle, and stays as it is.
abbrev pub idle : QueueState → QueueState
idle queue = record queue { fresh = Idle ∷ [] }

pub record IsIdle (old new : QueueScene) : Type 0 where
  pub is : new ≡ record old { queue = idle old.queue }
  pub goes_on : (past : List Step) (run : Run) → QueueStands past run old → QueueStands (idled ∷ past) run new

abbrev pub PumpsBy : Option Event → ℕ → QueueScene → QueueScene → Type 0
PumpsBy None line old new = IsIdle old new
PumpsBy (Some event) line old new = RunsLine line event old new

abbrev pub Pumps : ℕ → QueueScene → QueueScene → Type 0
Pumps line old new = PumpsBy (pumped old.queue.kept old.queue.submissions) line old new

-- ---- what a queue is made of

-- an event that appends a write of one to 32 blocks
pub record IsWrite (event : Event) : Type 0 where
  pub is : event ≡ append_event (submission_in event)
  pub sized : IsSubmission (submission_in event).lba (submission_in event).bytes
  pub bytes : BytesCommand (command_for (submission_in event))

-- up to 65,536 of them
pub record AreWrites (events : List Event) : Type 0 where
  pub each : AllByRecursion IsWrite events
  pub few : length events ≤ 65536
