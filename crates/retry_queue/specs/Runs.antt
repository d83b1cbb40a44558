-- The journals of the scripts of a queue keep the queue law.
use Rattle.std.specs.Prelude.{◌≡◌, ◌<◌, ◌≤◌, ◌*◌, ℕ, List, length, Some}
use Rattle.rbc_disk.specs.Disk.{disk_at}
use Rattle.sbp_laws.specs.Turns.{EachMoment}
use Rattle.sbp_world.specs.Histories.{history_of}
use Rattle.sbp_world.specs.Runs.{AreEntries, Run, beginning}
use Rattle.sbp_world.specs.Wire.Keeping.{HasLaws, IsLikeAScripts, StandsLawfully}
use Rattle.sbp_world.specs.Worlds.{Scene}
use Rattle.retry_queue.specs.Heard.{Keeps}
use Rattle.retry_queue.specs.Journals.{IsJournal, medium}
use Rattle.retry_queue.specs.Parts.{QueueLaw}
use Rattle.retry_queue.specs.Queues.{QueueScene, QueueStands}
use Rattle.retry_queue.specs.Scripts.{AreServed, Served, journal}
use Rattle.retry_queue.specs.Steps.{world}
use Rattle.retry_queue.specs.Taking.{PlainAt}

-- The journal of these lines, up to 65,536 of them, is that of a run of the machine of one initiator and one to four units, whose first line
-- has this number, and which has the laws of runs.
pub record IsQueueRun (served : List Served) (line : ℕ) (run : Run) : Type 0 where
  pub lines : AreServed served
  pub count : length served ≤ 65536
  pub history : world (journal served) ≡ history_of line run
  pub one : run.initiators ≡ 1
  pub some : 0 < run.units
  pub most : run.units ≤ 4
  pub like : IsLikeAScripts run
  pub entries_are : AreEntries (beginning run) run.entries
  pub laws : HasLaws line run

-- In its journal statuses are taken in turn and plain, and commands run on unit 0.
abbrev pub QueueRunsArePlain : Type 0
QueueRunsArePlain = (served : List Served) (line : ℕ) (run : Run) → IsQueueRun served line run → EachMoment PlainAt (world (journal served))

-- A journal is one of a queue; what the queue keeps of the notes is what its terms say; and it has the queue law, over what unit 0 held.
pub record HasQueueLaw (served : List Served) (run : Run) : Type 0 where
  pub is : IsJournal (journal served)
  pub keeps : Keeps (journal served)
  pub lawful : (bytes : List ℕ) → (disk_at run.start.disks 0).bytes ≡ Some bytes → length bytes ≡ 512 * (disk_at run.start.disks 0).blocks → QueueLaw (disk_at run.start.disks 0) bytes (journal served)

-- So it is of the journal of every script.
abbrev pub QueueRunsLaw : Type 0
QueueRunsLaw = (served : List Served) (line : ℕ) (run : Run) → IsQueueRun served line run → HasQueueLaw served run

-- And what the run leaves on unit 0 is what the journal says of it.
abbrev pub QueueMediaLaw : Type 0
QueueMediaLaw = (served : List Served) (line : ℕ) (run : Run) (s : Scene) → IsQueueRun served line run → StandsLawfully run s → disk_at s.media.disks 0 ≡ medium (disk_at run.start.disks 0) (journal served)

-- A queue that stands for the journal of a script, over one to four media, stands for such a run.
abbrev pub StandsForRuns : Type 0
StandsForRuns = (served : List Served) (run : Run) (s : QueueScene) (stands : QueueStands (journal served) run s) → AreServed served → length served ≤ 65536 → run.units ≡ length run.start.disks → 0 < run.units → run.units ≤ 4
    → IsQueueRun served stands.line run
