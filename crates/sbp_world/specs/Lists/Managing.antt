-- One management operation of an initiator is in hand at a time, at both ends (NCITS 325-1998, management agent), where lists were open as they should be before in a
-- run. Of an initiator that injected no packets: while none is under way at it, and its session is not stuck, no write of MANAGEMENT_AGENT of its generation waits to be judged, and the target
-- has no operation of it, or one whose status block was judged. While one is under way, the write of that one alone may wait; as that is judged the target
-- handles the ORB in its place alone, or refuses, and no response of conflict_error answers a write that it took; and the one status block that then waits to be
-- judged is of that place. Where the session is stuck and no such operation is under way nothing is said.
use Rattle.std.specs.Prelude.{◌≡◌, ◌⊎◌, ◌≤◌, ◌<◌, ℕ, suc, true, false, List, ◌∷◌, ◌++◌, map, length, Option, Some, None}
use Rattle.bus_memory.specs.declared.window.Window.TheVariants as windows
use Rattle.bus_memory.specs.Windows.{start as start_of}
use Rattle.mgmt_agent.specs.declared.operation.Operation.{Operation}
use Rattle.mgmt_agent.specs.declared.operation.Phase.TheVariants as phases
use Rattle.orb_layout.specs.Pointers.{offset_at}
use Rattle.rbc_disk.specs.Disk.{Disk}
use Rattle.rbc_disk.specs.Runs.{Told}
use Rattle.sbp_journal.specs.Addresses.{Access, management_agent, start_at, start_serves}
use Rattle.sbp_journal.specs.Run.{Moment, asked, said}
use Rattle.sbp_journal.specs.Transactions.{Sending, Transaction, begun_by, part_of, request, writing}
use Rattle.sbp_journal.specs.Wire.{Owed, terms}
use Rattle.sbp_laws.specs.Hosts.{Underway, host_at, is_management, is_stuck}
use Rattle.sbp_laws.specs.Packets.{access_at, access_in_bytes, id_for}
use Rattle.sbp_laws.specs.Targets.{is_nothing, target_at}
use Rattle.sbp_world.specs.Histories.{history_of}
use Rattle.sbp_world.specs.Runs.{Run, after, beginning}
use Rattle.sbp_world.specs.Settling.{MayAll, after_all}
use Rattle.sbp_world.specs.Worlds.{begun}
use Rattle.sbp_world.specs.Hosts.Runs.{IsRun, more_deliveries}
use Rattle.sbp_world.specs.Lists.ManagedFor.{managed_for}
use Rattle.sbp_world.specs.Lists.Needs.{IsCalm, OpenBefore, OpenBetween}

-- ---- what waits

-- a write of the address of the management ORB in a place, of the generation of its initiator, waits to be judged
pub record IsAsking (past : List Moment) (i serial place : ℕ) : Type 0 where
  pub packet : Sending
  pub sent : (terms past).sent serial ≡ Some packet
  pub from_is : packet.from ≡ suc i
  pub honest : packet.injected ≡ false
  pub current : packet.generation ≡ (terms past).generation (suc i)
  pub access : Access
  pub spelled : access_in_bytes packet.bytes ≡ Some access
  pub writes : access.is_write ≡ true
  pub block : access.is_block ≡ true
  pub small : place < 2
  pub names : offset_at access.payload 0 ≡ start_of (windows.Management place)
  pub unjudged : (terms past).news serial ≡ 0

-- the target has an operation of an initiator of its generation, with the ORB in a place
pub record IsHandling (start : List Disk) (past : List Moment) (i place : ℕ) (op : Operation) : Type 0 where
  pub same : (terms past).generation 0 ≡ (terms past).generation (suc i)
  pub is : (target_at start past).manager.operation ≡ Some op
  pub source : op.source ≡ id_for (terms past) 0 (suc i)
  pub small : place < 2
  pub orb : op.orb ≡ start_of (windows.Management place)

-- the status block of such an operation waits to be judged
pub record IsTelling (start : List Disk) (past : List Moment) (i serial place : ℕ) : Type 0 where
  pub packet : Sending
  pub sent : (terms past).sent serial ≡ Some packet
  pub current : packet.generation ≡ (terms past).generation (suc i)
  pub op : Operation
  pub is_for : managed_for start past serial ≡ Some op
  pub status : op.phase ≡ phases.Status
  pub source : op.source ≡ (terms past).ids packet.generation (suc i)
  pub small : place < 2
  pub orb : op.orb ≡ start_of (windows.Management place)
  pub unjudged : (terms past).news serial ≡ 0

-- ---- what is in hand

-- The target does nothing of it any more but hear the answer to a status block that was judged.
pub record IsRest (start : List Disk) (past : List Moment) (i : ℕ) : Type 0 where
  pub silent : (serial place : ℕ) → IsTelling start past i serial place → ⊥
  pub over : (place : ℕ) (op : Operation) → IsHandling start past i place op → (op.phase ≡ phases.Status) × (is_nothing (target_at start past).manager_asks ≡ true)

pub record IsFree (start : List Disk) (past : List Moment) (i : ℕ) : Type 0 where
  pub none : (serial place : ℕ) → IsAsking past i serial place → ⊥
  pub rest : IsRest start past i

-- a write was got, and is to be answered next
pub record IsTaking (past : List Moment) (write : ℕ) (owed : Owed) : Type 0 where
  pub owes : (terms past).owes ≡ Some owed
  pub first : owed.cause ≡ None
  pub serial : owed.serial ≡ write

-- the operation that it started asks for its ORB, or failed at once
pub data IsBeginning (start : List Disk) (past : List Moment) : Type 0 where
  asks : is_nothing (target_at start past).manager_asks ≡ false → IsBeginning start past
  failed : (target_at start past).manager.operation ≡ None → IsBeginning start past

-- a request that MANAGEMENT_AGENT serves
pub record IsAtAgent (past : List Moment) (write : ℕ) : Type 0 where
  pub access : Access
  pub asks : access_at (terms past) write ≡ Some access
  pub at : start_at access.offset ≡ management_agent
  pub serves : start_serves (start_at access.offset) access ≡ true

-- A write started an operation: no response with conflict_error, which is 4, answers it.
pub record IsAccepted (start : List Disk) (past : List Moment) (write : ℕ) : Type 0 where
  pub at : IsAtAgent past write
  pub given : (packet : Sending) (u : Transaction) → (terms past).sent write ≡ Some packet → begun_by packet ≡ Some u → (terms past).current u ≡ write → ((owed : Owed) → IsTaking past write owed → ⊥) → (terms past).given u ≡ 4 → ⊥
  pub taking : (owed : Owed) → IsTaking past write owed → IsBeginning start past

-- what the target has and tells of an initiator is of this place, and its block is the only one
pub record IsServed (start : List Disk) (past : List Moment) (i place write : ℕ) : Type 0 where
  pub accepted : IsAccepted start past write
  pub handles : (at : ℕ) (op : Operation) → IsHandling start past i at op → at ≡ place
  pub tells : (serial at : ℕ) → IsTelling start past i serial at → at ≡ place
  pub status : (serial at : ℕ) → IsTelling start past i serial at → (other : ℕ) (op : Operation) → IsHandling start past i other op → (op.phase ≡ phases.Status) × (is_nothing (target_at start past).manager_asks ≡ true)
  pub one : (serial other place at : ℕ) → IsTelling start past i serial place → IsTelling start past i other at → serial ≡ other

-- a write of an initiator that it did not inject
pub record IsOwnWrite (past : List Moment) (i write : ℕ) : Type 0 where
  pub packet : Sending
  pub sent : (terms past).sent write ≡ Some packet
  pub from_is : packet.from ≡ suc i
  pub to_is : packet.to ≡ 0
  pub honest : packet.injected ≡ false
  pub current : packet.generation ≡ (terms past).generation (suc i)
  pub label : ℕ
  pub part : part_of packet.bytes ≡ request label writing

-- an operation under way, with the place of its ORB and its write of MANAGEMENT_AGENT
pub record IsBusy (start : List Disk) (past : List Moment) (i place write : ℕ) : Type 0 where
  pub own : IsOwnWrite past i write
  pub only : (serial at : ℕ) → IsAsking past i serial at → (serial ≡ write) × (at ≡ place)
  pub waiting : (terms past).news write ≡ 0 → IsRest start past i
  pub judged : 0 < (terms past).news write → IsRest start past i ⊎ IsServed start past i place write

pub record IsManaged (start : List Disk) (past : List Moment) (i : ℕ) : Type 0 where
  pub free : ((underway : Underway) → (host_at past i).operation ≡ Some underway → is_management underway.operation ≡ false) → is_stuck (host_at past i).session ≡ false → IsFree start past i
  pub busy : (underway : Underway) → (host_at past i).operation ≡ Some underway → is_management underway.operation ≡ true → IsBusy start past i underway.place underway.first

-- After every line of every run of a machine with a unit, at most four, and a medium for each; and behind each delivery of a line that delivers one packet
-- after the other: where lists were open as they should be before.
pub record ManagingLaw : Type 0 where
  pub after_lines : (line : ℕ) (run : Run) → IsRun run → 0 < run.units → run.units ≤ 4 → length run.start.disks ≡ run.units → OpenBefore line run run.entries → (i : ℕ) → i < run.initiators → IsCalm (history_of line run) i → IsManaged run.start.disks (history_of line run) i
  pub between : (line : ℕ) (run : Run) → IsRun run → 0 < run.units → run.units ≤ 4 → length run.start.disks ≡ run.units → (next : ℕ) (most : Option ℕ) (told : List (Option Told)) → MayAll told (begun (after (beginning run) run.entries)) → OpenBetween line run next (more_deliveries most) told → (i : ℕ) → i < run.initiators → (let w = (after_all told (begun (after (beginning run) run.entries))).world in let now = map said w.fresh ++ asked next (more_deliveries most) ∷ history_of line run in IsCalm now i → IsManaged run.start.disks now i)
