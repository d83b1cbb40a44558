-- What becomes of a write of MANAGEMENT_AGENT that the target took as new (NCITS 325-1998, management agent): the target handles the ORB in its place; or it had an operation under way, and refused
-- the write; or it ignored it; or it wrote the status block of the ORB, which was taken as new and answered complete. So it is while nothing times out, no operation fails, the target sees no other
-- generation, and the responses that its operation waits for are whole.
use Rattle.std.specs.Prelude.{◌≡◌, ◌<◌, ◌++◌, ℕ, suc, true, List, ◌∷◌, Some, None}
use Rattle.bus_memory.specs.declared.window.Window.TheVariants as windows
use Rattle.bus_memory.specs.Windows.{start as start_of}
use Rattle.bus_transactions.specs.Packets.{SerialsCount}
use Rattle.mgmt_agent.specs.declared.operation.Operation.{Operation}
use Rattle.mgmt_agent.specs.declared.operation.Phase.TheVariants as phases
use Rattle.orb_layout.specs.Pointers.{offset_at}
use Rattle.orb_layout.specs.Replies.{Done}
use Rattle.rbc_disk.specs.Disk.{Disk}
use Rattle.sbp_journal.specs.Addresses.{Access, management_agent, start_at, start_serves}
use Rattle.sbp_journal.specs.Run.{Moment, asked, said}
use Rattle.sbp_journal.specs.Transactions.{Sending}
use Rattle.sbp_journal.specs.Wire.{terms}
use Rattle.sbp_journal.specs.declared.cause.Cause.{Cause}
use Rattle.sbp_journal.specs.declared.note.Note.TheVariants as notes
use Rattle.sbp_laws.specs.Packets.{access_in_bytes, answer_in, answered_at, packet_at}
use Rattle.sbp_laws.specs.Targets.{target_at}
use Rattle.sbp_laws.specs.Turns.{EachMoment}
use Rattle.sbp_world.specs.Completing.OperationsReplies.{IsWhole}
use Rattle.sbp_world.specs.Lists.ManagedFor.{managed_for}

-- ---- the write
-- it brings the address of the management ORB in a place of an initiator to MANAGEMENT_AGENT
pub record IsForPlace (i place : ℕ) (q : Sending) : Type 0 where
  pub from_is : q.from ≡ suc i
  pub to_is : q.to ≡ 0
  pub access : Access
  pub spelled : access_in_bytes q.bytes ≡ Some access
  pub at : start_at access.offset ≡ management_agent
  pub serves : start_serves (start_at access.offset) access ≡ true
  pub names : offset_at access.payload 0 ≡ start_of (windows.Management place)

-- ---- what became of it
-- the target handles that ORB, and waits for nothing that it sent before the write
pub record IsHandled (start : List Disk) (past : List Moment) (i write place generation : ℕ) : Type 0 where
  pub op : Operation
  pub is : (target_at start past).manager.operation ≡ Some op
  pub source : op.source ≡ (terms past).ids generation (suc i)
  pub orb : op.orb ≡ start_of (windows.Management place)
  pub behind : (r : ℕ) → (target_at start past).manages ≡ Some r → write < r

-- it had an operation under way as it got the write
pub record WasBusy (start : List Disk) (past : List Moment) (write : ℕ) : Type 0 where
  pub later : List Moment
  pub before : List Moment
  pub is : later ++ said (notes.Got write) ∷ before ≡ past
  pub new : (terms before).news write ≡ 0
  pub op : Operation
  pub busy : (target_at start before).manager.operation ≡ Some op

-- it ignored it as new
pub record WasIgnored (past : List Moment) (write : ℕ) : Type 0 where
  pub later : List Moment
  pub before : List Moment
  pub cause : Cause
  pub is : later ++ said (notes.Ignored write cause) ∷ before ≡ past
  pub new : (terms before).news write ≡ 0
  pub taken : 0 < (terms (said (notes.Ignored write cause) ∷ before)).news write

-- the response to it was got while the operation waited for it, behind the write, and was complete
pub record WasDone (start : List Disk) (past : List Moment) (i write serial generation : ℕ) : Type 0 where
  pub later : List Moment
  pub before : List Moment
  pub got : ℕ
  pub is : later ++ said (notes.Got got) ∷ before ≡ past
  pub closes : answered_at (terms before) got ≡ Some serial
  pub done : answer_in (packet_at (terms before) got) ≡ Done
  pub manages : (target_at start before).manages ≡ Some serial
  pub op : Operation
  pub operation : (target_at start before).manager.operation ≡ Some op
  pub source : op.source ≡ (terms before).ids generation (suc i)
  pub taken : 0 < (terms before).news write

-- the status block of the ORB, sent behind the write, was taken as new and answered complete
pub record WasTold (start : List Disk) (past : List Moment) (i write place generation : ℕ) : Type 0 where
  pub serial : ℕ
  pub op : Operation
  pub is_for : managed_for start past serial ≡ Some op
  pub status : op.phase ≡ phases.Status
  pub source : op.source ≡ (terms past).ids generation (suc i)
  pub orb : op.orb ≡ start_of (windows.Management place)
  pub behind : write < serial
  pub judged : 0 < (terms past).news serial
  pub done : WasDone start past i write serial generation

pub data Became (start : List Disk) (past : List Moment) (i write place generation : ℕ) : Type 0 where
  handled : IsHandled start past i write place generation → Became start past i write place generation
  busy : WasBusy start past write → Became start past i write place generation
  dropped : WasIgnored past write → Became start past i write place generation
  told : WasTold start past i write place generation → Became start past i write place generation

-- ---- while all goes well
-- The response that the operation waits for is whole; and that to its status block answers one that was taken as new.
pub record IsAnsweredWell (start : List Disk) (past : List Moment) (serial own : ℕ) (op : Operation) : Type 0 where
  pub whole : IsWhole op.phase (answer_in (packet_at (terms past) serial))
  pub taken : op.phase ≡ phases.Status → 0 < (terms past).news own

abbrev pub AnswersWell : List Disk → List Moment → ℕ → Type 0
AnswersWell start past serial = (own : ℕ) → answered_at (terms past) serial ≡ Some own → (target_at start past).manages ≡ Some own → (op : Operation) → (target_at start past).manager.operation ≡ Some op → IsAnsweredWell start past serial own op

-- a moment behind which the write was taken
abbrev pub IsSmooth : List Disk → (i write generation : ℕ) → Moment → List Moment → Type 0
IsSmooth start i write generation (asked line event) past = (terms (asked line event ∷ past)).ids generation (suc i) ≡ (terms past).ids generation (suc i)
IsSmooth start i write generation (said (notes.Sent serial g from to bytes)) past = (write < serial) × ((terms past).news serial ≡ 0)
IsSmooth start i write generation (said (notes.Got serial)) past = AnswersWell start past serial
IsSmooth start i write generation (said (notes.TimedOut serial)) past = ⊥
IsSmooth start i write generation (said (notes.Seen node seen)) past = node ≡ 0 → seen ≡ (terms past).generation 0
IsSmooth start i write generation (said (notes.ManageFailed j cause)) past = ⊥
IsSmooth start i write generation moment past = Unit {0}

-- the moment at which the target takes it
pub record IsTakenWell (past : List Moment) (write : ℕ) (q : Sending) : Type 0 where
  pub current : (terms past).generation 0 ≡ q.generation
  pub request : answered_at (terms past) write ≡ None

abbrev pub IsFirstAt : ℕ → Sending → Moment → List Moment → Type 0
IsFirstAt write q (said (notes.Got serial)) past = serial ≡ write → IsTakenWell past write q
IsFirstAt write q moment past = Unit {0}

pub record GoesWell (start : List Disk) (i write : ℕ) (q : Sending) (moment : Moment) (past : List Moment) : Type 0 where
  pub behind : 0 < (terms past).news write → IsSmooth start i write q.generation moment past
  pub first : (terms past).news write ≡ 0 → IsFirstAt write q moment past

-- ---- the law, of each history in which all goes well
abbrev pub TakenWriteLaw : Type 0
TakenWriteLaw =
    (start : List Disk) (past : List Moment) → SerialsCount past → (i write place : ℕ) (q : Sending) → IsForPlace i place q → EachMoment (GoesWell start i write q) past → (terms past).sent write ≡ Some q → 0 < (terms past).news write → Became start past i write place q.generation
