-- The notes of a run of the task machine are written so that the text of its journal determines them.
use Rattle.std.specs.List.{AllByRecursion}
use Rattle.sbp_journal.specs.Written.{IsWritten}
use Rattle.sbp_world.specs.Forms.{AreTyped}
use Rattle.sbp_world.specs.Runs.{Run}
use Rattle.task_world.specs.Media.{notes_of}
use Rattle.task_world.specs.Runs.{IsTaskRun}

-- So they are where those of each line are inside the types of their fields, as a task world says of them.
abbrev pub TaskNotesAreWritten : Type 0
TaskNotesAreWritten = (run : Run) → IsTaskRun run → AllByRecursion AreTyped run.entries → AllByRecursion IsWritten (notes_of run)
