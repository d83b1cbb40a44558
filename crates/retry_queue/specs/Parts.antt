-- The parts of the queue law.
use Rattle.std.specs.Prelude.{◌≡◌, ◌<◌, ◌≤◌, ◌⊎◌, ◌+◌, ◌-◌, ◌*◌, ◌&&◌, not, nat_lt, ℕ, zero, suc, Bool, true, false, List, ◌∷◌, Option, Some, None, IsSomeAnd}
use Rattle.rbc_disk.specs.Disk.{Disk, blocks_at, overwrite}
use Rattle.sbp_journal.specs.Run.{said, asked}
use Rattle.sbp_journal.specs.declared.event.Action.TheVariants as actions
use Rattle.sbp_journal.specs.declared.event.Event.TheVariants as events
use Rattle.sbp_journal.specs.declared.note.Note.TheVariants as notes
use Rattle.sbp_laws.specs.Lists.{present_list}
use Rattle.retry_queue.specs.Steps.{Step, of_world, Submission, command_for, count_of, world, EachStep, submissions, write_at}
use Rattle.retry_queue.specs.Known.{known}
use Rattle.retry_queue.specs.Taking.{all_good, is_unserved}
use Rattle.retry_queue.specs.Journals.{IsOf, medium}

-- ---- the second part: consecutive submissions

-- ORB k of a list is that of the submission k behind the list's first one, which was the first submission without a status as the list began
abbrev pub ConsecutiveAt : Step → List Step → Type 0
ConsecutiveAt (of_world (said (notes.Append i n k cdb buffer))) past =
    IsSomeAnd (write_at past ((known (of_world (said (notes.Append i n k cdb buffer)) ∷ past)).first n + k)) (λ write. IsOf (command_for write) cdb buffer)
ConsecutiveAt step past = Unit {0}

-- no append is asked for while a status of the present list is one that no submission has
abbrev pub WaitsAt : Step → List Step → Type 0
WaitsAt (of_world (asked line (events.Act i (actions.Append cmd)))) past =
    (n : ℕ) → present_list (world past) 0 ≡ Some n → is_unserved (world past) 0 n ≡ false
WaitsAt step past = Unit {0}

-- ---- the third part: the submissions with a status are a front
abbrev pub AreFront : List Step → Type 0
AreFront past = (q : ℕ) → (known past).has q ≡ nat_lt q (known past).done

-- ---- the fourth part: what each block of unit 0 holds

-- a block is one of those of a submission
abbrev pub covers : Option Submission → ℕ → Bool
covers None block = false
covers (Some write) block = not (nat_lt block write.lba) && nat_lt block (write.lba + count_of write)

-- these bytes of a medium are, in a block, what a submission writes there
abbrev pub HoldsWrite : Option Submission → ℕ → List ℕ → Type 0
HoldsWrite None block now = ⊥
HoldsWrite (Some write) block now = blocks_at block 1 now ≡ blocks_at (block - write.lba) 1 write.bytes

-- what a submission wrote that is not before another one
pub record IsFrom (write : ℕ → Option Submission) (count least block : ℕ) (now : List ℕ) : Type 0 where
  pub number : ℕ
  pub late : least ≤ number
  pub made : number < count
  pub writes : covers (write number) block ≡ true
  pub holds : HoldsWrite (write number) block now

-- A block holds what the last submission with a status that writes it wrote, or what a later one wrote; without such a submission it may
-- also hold its bytes at the start.
pub record HoldsDue (past : List Step) (bytes now : List ℕ) (block : ℕ) : Type 0 where
  pub own : (q : ℕ) → (known past).has q ≡ true → covers (write_at past q) block ≡ true → IsFrom (write_at past) (submissions past) q block now
  pub other : (blocks_at block 1 now ≡ blocks_at block 1 bytes) ⊎ IsFrom (write_at past) (submissions past) 0 block now

-- the bytes of the medium behind some steps, of which it had these at the start
pub record BlocksHold (past : List Step) (disk : Disk) (bytes : List ℕ) : Type 0 where
  pub now : List ℕ
  pub tells : (medium disk past).bytes ≡ Some now
  pub each : (block : ℕ) → block < disk.blocks → HoldsDue past bytes now block

-- ---- the fifth part: each submission once, in order
abbrev pub put_over : Option Submission → List ℕ → List ℕ
put_over None bytes = bytes
put_over (Some write) bytes = overwrite bytes (512 * write.lba) write.bytes

abbrev pub behind_all : (ℕ → Option Submission) → ℕ → List ℕ → List ℕ
behind_all write zero bytes = bytes
behind_all write (suc q) bytes = put_over (write q) (behind_all write q bytes)

abbrev pub IsAllWritten : List Step → Disk → List ℕ → Type 0
IsAllWritten past disk bytes = (medium disk past).bytes ≡ Some (behind_all (write_at past) (submissions past) bytes)

-- ---- the law, its second part to its fifth, over a medium that held these bytes at the start
pub record QueueLaw (disk : Disk) (bytes : List ℕ) (past : List Step) : Type 0 where
  pub consecutive : EachStep ConsecutiveAt past
  pub waits : EachStep WaitsAt past
  pub front : AreFront past
  pub blocks : all_good (world past) ≡ true → BlocksHold past disk bytes
  pub all : (known past).done ≡ submissions past → all_good (world past) ≡ true → IsAllWritten past disk bytes
