-- What a run of the machine leaves of the media.
use Rattle.std.specs.Prelude.{◌≡◌, ◌≤◌, ℕ}
use Rattle.sbp_world.specs.Histories.{history_of, notes_behind}
use Rattle.sbp_world.specs.Runs.{AreEntries, Run, after, beginning}
use Rattle.media_laws.specs.Media.{LeavesMedia, media_after}

-- Whatever the media are and whatever their calls answer, after a run of the machine each medium holds what its notes leave of what it held
-- at the start: what the disk fold of the laws gives for its unit; and each count of faults rose by the failing runs that the notes tell.
pub record DisksLaw : Type 0 where
  pub notes : (run : Run) → run.initiators ≤ 4 → AreEntries (beginning run) run.entries → (after (beginning run) run.entries).media ≡ media_after (notes_behind run.entries) run.start
  pub leaves : (line : ℕ) (run : Run) → run.initiators ≤ 4 → AreEntries (beginning run) run.entries → LeavesMedia run.start (history_of line run) (after (beginning run) run.entries).media
