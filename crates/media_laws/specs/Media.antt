-- What the media hold after some notes, with their counts of faults, by the notes alone (RBC). A command that ran on a unit leaves of its
-- medium what the plain disk says, and raises its count of faults where it ended with the check of a medium call that failed. No other note
-- changes either.
use Rattle.std.specs.Prelude.{◌≡◌, ℕ, ◌<◌, List, length, slice_index}
use Rattle.rbc_disk.specs.Disk.{Disk, disk_at}
use Rattle.rbc_disk.specs.Held.{Held}
use Rattle.sbp_base.specs.Faults.{count_up}
use Rattle.sbp_journal.specs.Run.{Moment}
use Rattle.sbp_laws.specs.DiskFold.{failed_runs}
use Rattle.sbp_laws.specs.Targets.{disk_of}
pub use Rattle.media_terms.specs.Media.{left_by_note, media_after, run_on}

-- ---- in the words of the laws

-- each medium holds what the disk fold gives for its unit
pub record DisksAre (start : List Disk) (past : List Moment) (disks : List Disk) : Type 0 where
  pub count : length disks ≡ length start
  pub each : (unit : ℕ) → unit < length start → disk_at disks unit ≡ disk_of start past unit

-- the count of each medium rose by the failing runs on its unit, up to its last value
pub record FailuresFit (before : List ℕ) (past : List Moment) (now : List ℕ) : Type 0 where
  pub count : length now ≡ length before
  pub each : (unit : ℕ) → unit < length before → slice_index now unit ≡ count_up (slice_index before unit) (failed_runs past unit)

-- What a history leaves of the media.
pub record LeavesMedia (before : Held) (past : List Moment) (now : Held) : Type 0 where
  pub disks : DisksAre before.disks past now.disks
  pub failures : FailuresFit before.faults past now.faults
