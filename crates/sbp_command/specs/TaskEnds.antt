-- What the top call promises of `tasks`, by its status.
use Rattle.std.specs.Prelude.{◌≡◌, ◌⊎◌, ℕ, List, [], ◌∷◌, codes, reverse}
use Rattle.std.specs.List.{AllByRecursion}
use Rattle.line_session.specs.Outside.{Outside}
use Rattle.rbc_disk.specs.Held.{Held}
use Rattle.sbp_journal.specs.declared.event.Event.{Event}
use Rattle.sbp_journal.specs.declared.note.Note.{Note}
use Rattle.sbp_journal.specs.Text.{text_of}
use Rattle.sbp_journal.specs.Written.{IsWritten}
use Rattle.media_laws.specs.Media.{LeavesMedia, media_after}
use Rattle.sbp_laws.specs.Lawful.{injectors}
use Rattle.sbp_laws.specs.OnTheBus.{LawfulOnTheBus}
use Rattle.sbp_world.specs.Histories.{history_of}
use Rattle.sbp_world.specs.Runs.{Run}
use Rattle.sbp_world.specs.Wire.History.{IsOfWire}
use Rattle.sbp_world.specs.Wire.Journal.{journal_run}
use Rattle.script_runner.specs.Events.{events_of, journal}
use Rattle.task_world.specs.Making.{first_scene}
use Rattle.task_world.specs.Runs.{IsTaskRun, after}
use Rattle.sbp_command.specs.Machine.{HasNone}
use Rattle.sbp_command.specs.Scripts.{ScriptCommand, ScriptEnds}
use Rattle.sbp_command.specs.TaskLines.{task_script}
use Rattle.task_world.specs.Media.{first_of}
use Rattle.sbp_command.specs.TaskRunner.{KeepsOthers}
use Rattle.sbp_command.specs.declared.status.Status.{Status}

abbrev pub IsTasks : List (List ℕ) → Type 0
IsTasks words = words ≡ codes "tasks" ∷ []

-- ---- what the task machine does over some events

-- The laws of a run whose first line has this number, whatever lines lose, repeat or time out: its history has those of the wire; and in its journal each
-- note has its form and is determined by its text, a write is taken as new at most once, and each line of the bus brings what it asks for, a
-- `settle` as many deliveries as its budget allows.
pub record IsLawfulTaskRun (line : ℕ) (run : Run) : Type 0 where
  pub of_wire : IsOfWire (history_of line run)
  pub on_the_bus : LawfulOnTheBus (injectors (history_of line run)) (journal_run line run)

-- A run of the task machine over the medium of unit 0, over exactly these events and from what that medium held at first: its notes, and what it
-- leaves of that medium; the others are as they were. That is what the notes alone say of them: each medium holds what the disk fold
-- gives, and each failing run raised its count. The run is lawful. Its notes are written so that their text determines them: no other notes of such a
-- form have it.
pub record HasTaskRun (start : Held) (happened : List (ℕ × Event)) (notes : List Note) (now : Held) : Type 0 where
  pub line : ℕ
  pub run : Run
  pub start_is : run.start ≡ first_of start
  pub task_run : IsTaskRun run
  pub events_are : events_of line run ≡ happened
  pub notes_are : notes ≡ journal run
  pub medium_is : first_of now ≡ (after (first_scene run.start) run.entries).scene.media
  pub others : KeepsOthers start now
  pub media_fit : now ≡ media_after (reverse notes) start
  pub leaves : LeavesMedia start (history_of line run) now
  pub lawful : IsLawfulTaskRun line run
  pub written : AllByRecursion IsWritten notes
  pub by_text : (others : List Note) → AllByRecursion IsWritten others → text_of others ≡ text_of notes → others ≡ notes

-- what the task machine does over some events
abbrev pub RunsTasks : Held → List (ℕ × Event) → List Note → Held → Type 0
RunsTasks start happened notes now = HasNone start happened notes now ⊎ HasTaskRun start happened notes now

-- what `tasks` reads, and what it does
abbrev pub task_command : ScriptCommand
task_command = record { script = task_script; does = RunsTasks }

-- the clause of `tasks` by status
abbrev pub TaskEnds : Status → Outside → Outside → Type 0
TaskEnds status before now = ScriptEnds task_command status before now
