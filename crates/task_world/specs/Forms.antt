-- The notes of a line of `tasks` have the form of a journal's notes, so that its text can be written and read back.
use Rattle.std.specs.Prelude.{ℕ}
use Rattle.std.specs.List.{AllByRecursion}
use Rattle.sbp_journal.specs.declared.event.Event.{Event}
use Rattle.sbp_world.specs.Forms.{AreForms, HaveForm}
use Rattle.sbp_world.specs.Runs.{Run}
use Rattle.task_world.specs.Lines.{TaskHappens}
use Rattle.task_world.specs.Runs.{IsTaskRun}
use Rattle.task_world.specs.Worlds.{TaskScene}

-- So it is of each line from any scene, and so of every line of a run.
pub record FormLaw : Type 0 where
  pub lines : (line : ℕ) (event : Event) (old new : TaskScene) → TaskHappens line event old new → HaveForm new.scene.world
  pub runs : (run : Run) → IsTaskRun run → AllByRecursion AreForms run.entries
