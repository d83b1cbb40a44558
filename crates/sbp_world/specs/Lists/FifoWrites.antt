-- What the target writes to the FIFOs of an initiator, in the name of a place of management (NCITS 325-1998, management agent and status block). Of an initiator that
-- injected no packets, where lists were open as they should be before: a status block that names a management ORB is written to a FIFO of it for the operation of the
-- target alone whose ORB that is, at its end. The blocks of its agents name command ORBs, the bytes of their answers go to no FIFO, an unsolicited block is no such block,
-- nor is a response of the management. So is each one that it gets at an open FIFO.
use Rattle.std.specs.Prelude.{◌≡◌, ◌≤◌, ◌<◌, ℕ, zero, suc, true, List, ◌∷◌, ◌++◌, length, map, Option, Some, Ok}
use Rattle.bus_memory.specs.declared.window.Window.TheVariants as windows
use Rattle.bus_memory.specs.Windows.{start as start_of}
use Rattle.mgmt_agent.specs.declared.operation.Operation.{Operation}
use Rattle.mgmt_agent.specs.declared.operation.Phase.TheVariants as phases
use Rattle.orb_layout.specs.declared.status.StatusBlock.{StatusBlock}
use Rattle.orb_layout.specs.StatusBlocks.{read_block}
use Rattle.rbc_disk.specs.Disk.{Disk}
use Rattle.rbc_disk.specs.Runs.{Told}
use Rattle.sbp_journal.specs.Addresses.{Access}
use Rattle.sbp_journal.specs.Run.{Moment, asked, said}
use Rattle.sbp_journal.specs.Wire.{terms}
use Rattle.sbp_journal.specs.declared.note.Note.TheVariants as notes
use Rattle.sbp_laws.specs.Packets.{access_in_bytes}
use Rattle.sbp_laws.specs.Targets.{target_at}
use Rattle.sbp_laws.specs.Turns.{EachMoment}
use Rattle.sbp_world.specs.Histories.{history_of}
use Rattle.sbp_world.specs.Runs.{Run, after, beginning}
use Rattle.sbp_world.specs.Settling.{MayAll, after_all}
use Rattle.sbp_world.specs.Worlds.{begun}
use Rattle.sbp_world.specs.Hosts.Runs.{IsRun, more_deliveries}
use Rattle.sbp_world.specs.Lists.ManagedFor.{is_its_packet}
use Rattle.sbp_world.specs.Lists.Needs.{IsCalm, OpenBefore, OpenBetween}
use Rattle.sbp_world.specs.Lists.Statuses.{IsFifo}

-- a packet writes a block with the address of a management ORB to a FIFO
pub record IsPlaceWrite (bytes : List ℕ) (place : ℕ) : Type 0 where
  pub access : Access
  pub is : access_in_bytes bytes ≡ Some access
  pub writes : access.is_write ≡ true
  pub goes : IsFifo access.offset
  pub block : StatusBlock
  pub reads : read_block true access.payload ≡ Ok block
  pub small : place < 2
  pub names : block.orb ≡ start_of (windows.Management place)

-- it is the packet of the operation of the target, which ends with it
pub record IsOfOperation (start : List Disk) (past : List Moment) (i serial generation to : ℕ) (bytes : List ℕ) (place : ℕ) : Type 0 where
  pub its : is_its_packet (target_at start past) (target_at start (said (notes.Sent serial generation zero to bytes) ∷ past)) serial ≡ true
  pub op : Operation
  pub operation : (target_at start past).manager.operation ≡ Some op
  pub status : op.phase ≡ phases.Status
  pub orb : op.orb ≡ start_of (windows.Management place)
  pub source : op.source ≡ (terms past).ids generation (suc i)

-- each one that is sent to initiator i
abbrev pub PlaceSo : List Disk → ℕ → Moment → List Moment → Type 0
PlaceSo start i (said (notes.Sent serial generation zero to bytes)) past = to ≡ suc i → (place : ℕ) → IsPlaceWrite bytes place → IsOfOperation start past i serial generation to bytes place
PlaceSo start i moment past = Unit {0}

-- At each place of a run before which lists were open as they should be, of the initiators that injected no packets.
pub record FifoWritesLaw : Type 0 where
  pub after_lines : (line : ℕ) (run : Run) → IsRun run → 0 < run.units → run.units ≤ 4 → length run.start.disks ≡ run.units → OpenBefore line run run.entries → (i : ℕ) → i < run.initiators → IsCalm (history_of line run) i → EachMoment (PlaceSo run.start.disks i) (history_of line run)
  pub between : (line : ℕ) (run : Run) → IsRun run → 0 < run.units → run.units ≤ 4 → length run.start.disks ≡ run.units → (next : ℕ) (most : Option ℕ) (told : List (Option Told)) → MayAll told (begun (after (beginning run) run.entries)) → OpenBetween line run next (more_deliveries most) told → (i : ℕ) → i < run.initiators → (let w = (after_all told (begun (after (beginning run) run.entries))).world in let now = map said w.fresh ++ asked next (more_deliveries most) ∷ history_of line run in IsCalm now i → EachMoment (PlaceSo run.start.disks i) now)
