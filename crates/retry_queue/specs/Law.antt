-- The laws of the retry queue over its steps.
use Rattle.std.specs.Prelude.{ℕ, Bool, List}
use Rattle.rbc_disk.specs.Disk.{Disk, disk_at}
use Rattle.retry_queue.specs.Steps.{Step, EachStep}
use Rattle.retry_queue.specs.Journals.{IsDiskJournal, IsJournal}
use Rattle.retry_queue.specs.Parts.{AreFront, ConsecutiveAt, QueueLaw, WaitsAt}

-- In each list the ORBs are those of consecutive submissions, from the first one without a status as the list began; and the submissions
-- with a status are a front.
pub record KeepsOrder (past : List Step) : Type 0 where
  pub consecutive : EachStep ConsecutiveAt past
  pub front : AreFront past

abbrev pub OrderKept : Type 0
OrderKept = (past : List Step) → IsJournal past → KeepsOrder past

-- Behind a status that no submission has the present list gets no ORB.
abbrev pub DeadListsWait : Type 0
DeadListsWait = (past : List Step) → IsJournal past → EachStep WaitsAt past

-- The queue law: these together, and what unit 0 holds.
abbrev pub QueuesAreLawful : Type 0
QueuesAreLawful = (wild : ℕ → Bool) (start : List Disk) (bytes : List ℕ) (past : List Step) → IsDiskJournal wild start bytes past → QueueLaw (disk_at start 0) bytes past
