-- What a run of the task machine leaves of the media, by the notes of its journal.
use Rattle.std.proofs.Common.{◌≡◌, ◌∙◌, sym, ap, subst, ℕ, reverse}
use Rattle.rbc_disk.specs.Held.{Held}
use Rattle.media_laws.specs.Media.{LeavesMedia, media_after}
use Rattle.media_laws.proofs.Folds.{leaves_media}
use Rattle.sbp_world.specs.Histories.{history_of}
use Rattle.sbp_world.specs.Runs.{Run}
use Rattle.script_runner.specs.Events.{journal}
use Rattle.task_world.specs.Media.{first_of, with_first}
use Rattle.task_world.specs.Runs.{TaskRuns}
use Rattle.task_world.specs.Worlds.{TaskScene, TaskWorldState}
use Rattle.task_world.proofs.TaskMedia.{disks_law}
use Rattle.sbp_command.specs.TaskRunner.{KeepsOthers, scene_of}
use Rattle.sbp_command.proofs.Media.{journal_back}

-- The media, whose first one a world has that stands for a run; the others are as they were.
module _ (start media : Held) (world : TaskWorldState) (run : Run) (same : run.start ≡ first_of start) (h : TaskRuns run (scene_of world media)) (others : KeepsOthers start media) where
  left : media ≡ with_first (scene_of world media).scene.media start
  left = others

  pub run_fits : media ≡ media_after (reverse (journal run)) start
  run_fits =
      left ∙ ap (λ (s : TaskScene). with_first s.scene.media start) h.state ∙ disks_law.notes run start h.is same ∙ ap (λ told. media_after told start) (sym (journal_back run))

  pub run_leaves : (line : ℕ) → LeavesMedia start (history_of line run) media
  run_leaves line =
      subst (LeavesMedia start (history_of line run)) (sym (left ∙ ap (λ (s : TaskScene). with_first s.scene.media start) h.state ∙ disks_law.history line run start h.is same))
      (leaves_media start (history_of line run))
