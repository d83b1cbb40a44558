-- The journals of a queue: each step is one that the queue makes, by its pump, or that its world brings, by the laws of runs.
use Rattle.std.specs.Prelude.{◌≡◌, ◌<◌, ◌≤◌, ◌^◌, ◌%◌, ◌*◌, ℕ, zero, Bool, true, false, List, [], ◌∷◌, length, Option, Some, None, IsSomeAnd}
use Rattle.rbc_disk.specs.Disk.{Disk, disk_at}
use Rattle.rbc_disk.specs.Runs.{medium_after}
use Rattle.sbp_journal.specs.Run.{asked, said}
use Rattle.sbp_journal.specs.declared.event.Cmd.{Cmd}
use Rattle.sbp_journal.specs.declared.event.Action.{Action}
use Rattle.sbp_journal.specs.declared.event.Action.TheVariants as actions
use Rattle.sbp_journal.specs.declared.event.Event.TheVariants as events
use Rattle.sbp_journal.specs.declared.note.NoteBuffer.{NoteBuffer}
use Rattle.sbp_journal.specs.declared.note.Note.TheVariants as notes
use Rattle.sbp_laws.specs.Actions.{buffer_of, new_list, new_number}
use Rattle.sbp_laws.specs.Lists.{present_list, waits_in}
use Rattle.sbp_laws.specs.OnLists.{LawfulOnLists}
use Rattle.sbp_laws.specs.OrderLaw.{IsNextAppend}
use Rattle.sbp_laws.specs.Turns.{EachMoment}
use Rattle.retry_queue.specs.Steps.{Step, of_world, submitted, idled, told, EachStep, submissions, world}
use Rattle.retry_queue.specs.Known.{written_due}
use Rattle.retry_queue.specs.Pump.{pump}
use Rattle.retry_queue.specs.Taking.{PlainAt}

-- ---- what the queue makes

-- one to 32 whole blocks, from a block with an address of four bytes on
pub record IsSubmission (lba : ℕ) (bytes : List ℕ) : Type 0 where
  pub address : lba < 2 ^ 32
  pub some : 512 ≤ length bytes
  pub few : length bytes ≤ 16384
  pub whole : length bytes % 512 ≡ 0

pub record IsSubmitted (past : List Step) (lba : ℕ) (bytes : List ℕ) : Type 0 where
  pub sized : IsSubmission lba bytes
  pub few : submissions past < 65536

-- an initiator acts as a pump says, and there is one initiator
pub record IsPumped (past : List Step) (i : ℕ) (action : Action) : Type 0 where
  pub own : i ≡ 0
  pub due : pump past ≡ Some action

-- A pump makes the action of its table's first row, or is told idle where that has none. Each submission has its size. A status is told of
-- a submission directly behind the `taken` that gave it.
abbrev pub MadeAt : Step → List Step → Type 0
MadeAt (of_world (asked line (events.Act i action))) past = IsPumped past i action
MadeAt (of_world moment) past = Unit {0}
MadeAt (submitted lba bytes) past = IsSubmitted past lba bytes
MadeAt idled past = pump past ≡ None
MadeAt (told number status) past = written_due past ≡ Some (number, status)

-- each `taken` that gives a submission its status is followed by it
abbrev pub FollowsAt : Step → List Step → Type 0
FollowsAt (told number status) past = Unit {0}
FollowsAt step past = written_due past ≡ None

-- ---- what its world brings

-- the CMD that the line directly before asked to append
abbrev pub asked_append : List Step → Option Cmd
asked_append (of_world (asked line (events.Act zero (actions.Append cmd))) ∷ past) = Some cmd
asked_append _ = None

-- an ORB is that of its CMD
pub record IsOf (cmd : Cmd) (cdb : List ℕ) (buffer : NoteBuffer) : Type 0 where
  pub command : cdb ≡ cmd.cdb
  pub buffered : buffer ≡ buffer_of cmd

-- an ORB is appended directly behind its line, to the present list or as the first one of the next list
pub record IsAppended (past : List Step) (i n k : ℕ) (cdb : List ℕ) (buffer : NoteBuffer) : Type 0 where
  pub own : i ≡ 0
  pub next : IsNextAppend (world past) 0 n k
  pub list : n ≡ new_list (world past) 0
  pub number : k ≡ new_number (world past) 0
  pub asked : IsSomeAnd (asked_append past) (λ cmd. IsOf cmd cdb buffer)

-- A run begins before its lists do; each ORB is that of its line; and a status is taken of one that waits.
abbrev pub BroughtAt : Step → List Step → Type 0
BroughtAt (of_world (said (notes.Begin initiators ready))) past = present_list (world past) 0 ≡ None
BroughtAt (of_world (said (notes.Append i n k cdb buffer))) past = IsAppended past i n k cdb buffer
BroughtAt (of_world (said (notes.Taken i n k status answer))) past = waits_in (world past) i n k ≡ true
BroughtAt step past = Unit {0}

-- ---- journals

pub record IsJournal (past : List Step) : Type 0 where
  pub made : EachStep MadeAt past
  pub follows : EachStep FollowsAt past
  pub brought : EachStep BroughtAt past
  pub plain : EachMoment PlainAt (world past)

-- ---- what unit 0 holds: what the runs on it leave of what it held at the start
abbrev pub medium : Disk → List Step → Disk
medium start [] = start
medium start (of_world (said (notes.Ran i n k zero cdb bytes check)) ∷ past) = medium_after cdb bytes check (medium start past)
medium start (_ ∷ past) = medium start past

-- A journal over media whose first one holds these bytes, with the laws of lists; of those in a set, which injected packets, none is an
-- initiator.
pub record IsDiskJournal (wild : ℕ → Bool) (start : List Disk) (bytes : List ℕ) (past : List Step) : Type 0 where
  pub journal : IsJournal past
  pub tame : (i : ℕ) → wild i ≡ false
  pub lawful : LawfulOnLists wild start (world past)
  pub some : 0 < length start
  pub tells : (disk_at start 0).bytes ≡ Some bytes
  pub whole : length bytes ≡ 512 * (disk_at start 0).blocks
