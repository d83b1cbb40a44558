-- What each line of a task world keeps: the run that it stands for has the laws of the wire, and those of the lines of the bus.
use Rattle.std.specs.Prelude.{◌<◌, ℕ, ◌+◌, ◌^◌, List, length, Option}
use Rattle.std.specs.List.{AllByRecursion}
use Rattle.rbc_disk.specs.Held.{Held}
use Rattle.rbc_disk.specs.Runs.{Told}
use Rattle.sbp_journal.specs.declared.event.Event.{Event}
use Rattle.sbp_laws.specs.Lawful.{injectors}
use Rattle.sbp_laws.specs.OnceLaw.{OnceLaw}
use Rattle.sbp_laws.specs.OnTheBus.{FormedOnTheBus, LawfulOnTheBus}
use Rattle.sbp_world.specs.Forms.{AreTyped}
use Rattle.sbp_world.specs.Histories.{history_of}
use Rattle.sbp_world.specs.Runs.{Entry, Run, entry, with_entry}
use Rattle.sbp_world.specs.Wire.History.{IsOfWire}
use Rattle.sbp_world.specs.Wire.Journal.{journal_run}
use Rattle.sbp_world.specs.Wire.Lines.{IsLine}
use Rattle.task_world.specs.Runs.{IsTaskRun, TaskRuns, first_run}
use Rattle.task_world.specs.Worlds.{TaskScene, TaskWorldState}

-- the fields of each line are those of a script's
abbrev pub AreLines : List Entry → Type 0
AreLines entries = AllByRecursion (λ e. IsLine e.event 1) entries

-- A run is such as a script's: it has fewer than 2^32 - 2 lines, and the lines have the fields of a script's.
pub record IsLikeAScripts (run : Run) : Type 0 where
  pub count : length run.entries + 2 < 2 ^ 32
  pub lines : AreLines run.entries

-- Of a run whose first line has this number: its history has the laws of the wire, and a write is taken as new at most once.
pub record HasMoves (first : ℕ) (run : Run) : Type 0 where
  pub of_wire : IsOfWire (history_of first run)
  pub once : OnceLaw (injectors (history_of first run)) (history_of first run)

-- so has every run of `tasks` that is such as a script's
abbrev pub WireRunLaw : Type 0
WireRunLaw = (first : ℕ) (run : Run) → IsTaskRun run → IsLikeAScripts run → HasMoves first run

-- The laws of a run whose first line has this number: its history has those of the wire, its journal those of the lines of the bus, with the form
-- of its notes and the once law; and where its notes are inside their types, as each line's are, each is determined by its text.
pub record HasWireLaws (first : ℕ) (run : Run) : Type 0 where
  pub of_wire : IsOfWire (history_of first run)
  pub on_the_bus : FormedOnTheBus (injectors (history_of first run)) (journal_run first run)
  pub written : AllByRecursion AreTyped run.entries → LawfulOnTheBus (injectors (history_of first run)) (journal_run first run)

-- so has every run of `tasks` that is such as a script's
abbrev pub WireLaw : Type 0
WireLaw = (first : ℕ) (run : Run) → IsTaskRun run → IsLikeAScripts run → HasWireLaws first run

-- A task world stands for a run, which has the laws where it is such as a script's.
pub record StandsLawfully (run : Run) (s : TaskScene) : Type 0 where
  pub stands : TaskRuns run s
  pub has_laws : (first : ℕ) → IsLikeAScripts run → HasWireLaws first run

-- A new task world does so for the run before any line after `begin`, over any medium.
abbrev pub BeginsTaskLaws : TaskWorldState → Type 0
BeginsTaskLaws w = (start : Held) → StandsLawfully (first_run start) (record { scene = record { world = w.world; media = start }; node = w.node })

-- A run has one entry more, of this line and event, and the world stands for it.
pub record GoesOn (run : Run) (line : ℕ) (event : Event) (s : TaskScene) : Type 0 where
  pub told : List (Option Told)
  pub keeps : StandsLawfully (with_entry run (entry line event told s.scene.world.fresh)) s

-- Each run that the world stood for goes on so by a line.
abbrev pub KeepsTaskLaws : ℕ → Event → TaskScene → TaskScene → Type 0
KeepsTaskLaws line event old new = (run : Run) → TaskRuns run old → GoesOn run line event new
