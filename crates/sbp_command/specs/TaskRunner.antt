-- What `tasks` does with lines.
use Rattle.std.specs.Prelude.{◌≡◌, ℕ, ◌+◌, ◌≤◌, true, List, [], length, slice_index, slice_set, refl, Option, Some, None, Err}
use Rattle.std.specs.List.{AllByRecursion}
use Rattle.std.proofs.Math.Nat.{le_refl}
use Rattle.rbc_disk.specs.Disk.{Disk, disk_at}
use Rattle.rbc_disk.specs.Held.{Held, held}
use Rattle.sbp_journal.specs.declared.event.Event.{Event}
use Rattle.sbp_journal.specs.declared.event.Event.TheVariants as events
use Rattle.sbp_journal.specs.Text.{text_of}
use Rattle.line_session.specs.Meaning.{Meaning}
use Rattle.sbp_world.specs.Forms.{AreTyped}
use Rattle.sbp_world.specs.Runs.{Run}
use Rattle.sbp_world.specs.Wire.Lines.{IsLine}
use Rattle.script_runner.specs.Events.{MayLeave, events_of, journal}
use Rattle.script_runner.specs.Script.{begun_by}
use Rattle.task_world.specs.Lines.{IsTaskEvent}
use Rattle.task_world.specs.Media.{first_of}
use Rattle.task_world.specs.Runs.{TaskRuns}
use Rattle.task_world.specs.Wire.Keeping.{AreLines}
use Rattle.task_world.specs.Worlds.{TaskScene, TaskWorldState, task_scene}
use Rattle.sbp_command.specs.TaskLines.{of_lines, says}

-- ---- the medium of unit 0

-- the media, of which that of unit 0 holds this, with this count
abbrev pub with_first : Disk → ℕ → Held → Held
with_first disk count media = held (slice_set media.disks 0 disk) (slice_set media.faults 0 count)

-- a task world with the medium of its unit
abbrev pub scene_of : TaskWorldState → Held → TaskScene
scene_of world media = task_scene world (disk_at media.disks 0) (slice_index media.faults 0)

-- No medium changed but that of unit 0.
abbrev pub KeepsOthers : Held → Held → Type 0
KeepsOthers start media = media ≡ with_first (disk_at media.disks 0) (slice_index media.faults 0) start

-- ---- a line

abbrev pub beginning_event : Event
beginning_event = events.Begin 1 true

-- what may happen: a run begins once, as `begin 1 ready` says, and then it goes on
abbrev pub MayHappenIn : Option TaskWorldState → Event → Type 0
MayHappenIn None event = event ≡ beginning_event
MayHappenIn (Some world) event = IsTaskEvent event × IsLine event 1

-- ---- a run

-- The task world and the medium of unit 0 stand for a run of the task machine over these events, whose journal has this text and is of
-- notes inside their types; the other media are as they were.
pub record InRun (start : Held) (happened : List (ℕ × Event)) (text : List ℕ) (world : TaskWorldState) (media : Held) : Type 0 where
  pub line : ℕ
  pub run : Run
  pub start_is : run.start ≡ first_of start
  pub events_are : events_of line run ≡ happened
  pub text_is : text ≡ text_of (journal run)
  pub stands : TaskRuns run (scene_of world media)
  pub others : KeepsOthers start media
  pub lines : AreLines run.entries
  pub typed : AllByRecursion AreTyped run.entries

-- No run has begun.
pub record IsIdle (start : Held) (happened : List (ℕ × Event)) (text : List ℕ) (media : Held) : Type 0 where
  pub events_are : happened ≡ []
  pub text_is : text ≡ []
  pub media_are : media ≡ start

abbrev pub Stands : Held → List (ℕ × Event) → List ℕ → Option TaskWorldState → Held → Type 0
Stands start happened text None media = IsIdle start happened text media
Stands start happened text (Some world) media = InRun start happened text world media

-- how many initiators the run has, none before it begins
abbrev pub initiators_in : Option TaskWorldState → ℕ
initiators_in None = 0
initiators_in (Some world) = 1

-- The lines are as many as there may be, and have no fault, and the world and the media stand for a run over their events, whose journal
-- has this text.
pub record RanSo (start : Held) (served : List (List ℕ)) (text : List ℕ) (state : Option TaskWorldState) (media : Held) : Type 0 where
  pub count : length served ≤ 65536
  pub clean : (of_lines served).fault ≡ None
  pub initiators : initiators_in state ≡ begun_by 0 (of_lines served).events
  pub stands : Stands start (of_lines served).events text state media

abbrev pub task_meaning : Meaning (Option TaskWorldState)
task_meaning = record {
  ready = λ number state media. 1 ≤ length media.disks;
  ran = RanSo;
  refuses = λ served line fault. says (1 + length served) (begun_by 0 (of_lines served).events) line ≡ Err fault;
  closed = λ served text start media. (state : Option TaskWorldState) × RanSo start served text state media;
  stays = MayLeave;
  stays_same = λ media. record { count = refl; fell = record { each = λ unit. le_refl (slice_index media.faults unit) } };
}
