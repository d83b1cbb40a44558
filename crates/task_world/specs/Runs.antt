-- A run of the task machine. Its entries, its moments and its journal are those of a run of the machine by one ready initiator over one unit.
use Rattle.std.specs.Prelude.{◌≡◌, ℕ, true, List, [], ◌∷◌}
use Rattle.rbc_disk.specs.Held.{Held}
use Rattle.sbp_journal.specs.declared.event.Event.{Event}
use Rattle.sbp_world.specs.Runs.{Entry, Run, entry, with_entry}
use Rattle.task_world.specs.Lines.{IsTaskEvent, MayHappen, TaskHappens, task_happens}
use Rattle.task_world.specs.Making.{first_scene}
use Rattle.task_world.specs.Worlds.{TaskScene}

-- the run before any line after `begin`, from what the medium held with its count of faults
abbrev pub first_run : Held → Run
first_run start = record { initiators = 1; ready = true; units = 1; start = start; entries = [] }

-- the scene after some lines
abbrev pub after : TaskScene → List Entry → TaskScene
after s [] = s
after s (e ∷ before) = task_happens e.line e.event e.told (after s before)

-- A line from a scene: it is one of `tasks`, it may have told this, and these are its notes.
pub record IsNext (e : Entry) (s : TaskScene) : Type 0 where
  pub event : IsTaskEvent e.event
  pub may : MayHappen e.event e.told s
  pub notes_are : e.notes ≡ (task_happens e.line e.event e.told s).scene.world.fresh

abbrev pub AreEntries : TaskScene → List Entry → Type 0
AreEntries s [] = Unit {0}
AreEntries s (e ∷ before) = IsNext e (after s before) × AreEntries s before

-- A run of `tasks`: it begins with `begin 1 ready`, over one unit, and its lines follow from there.
pub record IsTaskRun (run : Run) : Type 0 where
  pub one : run.initiators ≡ 1
  pub ready : run.ready ≡ true
  pub unit : run.units ≡ 1
  pub lines : AreEntries (first_scene run.start) run.entries

-- A task world and its medium stand for such a run.
pub record TaskRuns (run : Run) (s : TaskScene) : Type 0 where
  pub is : IsTaskRun run
  pub state : s ≡ after (first_scene run.start) run.entries

-- A new task world stands for the run before any line after `begin`, over any medium.
abbrev pub BeginsLaw : Type 0
BeginsLaw = (start : Held) → TaskRuns (first_run start) (first_scene start)

-- What a step of a task world does, whatever run it stands for: it stands afterwards for that run with one entry more, and its notes are those of the entry.
abbrev pub GoesOnLaw : Type 0
GoesOnLaw =
    (run : Run) (line : ℕ) (event : Event) (old new : TaskScene) → TaskRuns run old → IsTaskEvent event → (h : TaskHappens line event old new) → TaskRuns (with_entry run (entry line event h.told new.scene.world.fresh)) new
