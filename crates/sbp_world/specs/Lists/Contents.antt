-- What the target sends for an operation of its management, in every run (NCITS 325-1998, management agent, login response and status block): a packet that the
-- operation asked for asks for what it asked for then. It reads the 32 bytes of its ORB at the address that was written, or a half of the EUI-64 in the ROM; or it
-- writes the response, or the status block that names the ORB, as the target had them.
use Rattle.std.specs.Prelude.{◌≡◌, ◌≤◌, ◌<◌, ℕ, zero, true, false, List, [], ◌∷◌, ◌++◌, length, map, Option, Some}
use Rattle.label_table.specs.Bodies.{Body, block_read, block_write, quadlet_read, quadlet_write}
use Rattle.mgmt_agent.specs.declared.operation.Operation.{Operation}
use Rattle.mgmt_agent.specs.declared.operation.Phase.{Phase}
use Rattle.mgmt_agent.specs.declared.operation.Phase.TheVariants as phases
use Rattle.mgmt_agent.specs.declared.status.Status.{Status}
use Rattle.mgmt_agent.specs.Machine.{high_eui_at, low_eui_at, status_block}
use Rattle.rbc_disk.specs.Disk.{Disk}
use Rattle.rbc_disk.specs.Runs.{Told}
use Rattle.sbp_journal.specs.Addresses.{Access}
use Rattle.sbp_journal.specs.Run.{Moment, asked, said}
use Rattle.sbp_journal.specs.declared.event.Event.{Event}
use Rattle.sbp_journal.specs.declared.note.Note.TheVariants as notes
use Rattle.sbp_laws.specs.Packets.{access_in_bytes}
use Rattle.sbp_laws.specs.Targets.{target_at}
use Rattle.sbp_laws.specs.Turns.{EachMoment}
use Rattle.sbp_target.specs.Management.{manager_body}
use Rattle.sbp_world.specs.Histories.{history_of}
use Rattle.sbp_world.specs.Runs.{Run, after, beginning}
use Rattle.sbp_world.specs.Settling.{MayAll, after_all}
use Rattle.sbp_world.specs.Worlds.{begun}
use Rattle.sbp_world.specs.Agents.AskedRuns.{read_access, write_access}
use Rattle.sbp_world.specs.Agents.Management.Terms.{DeliversMore}
use Rattle.sbp_world.specs.Hosts.Runs.{IsRun}
use Rattle.sbp_world.specs.Lists.ManagedFor.{is_its_packet, managed_for}

-- what a body asks for
abbrev pub access_for : Body → Access
access_for (quadlet_write offset value) = record { is_lock = false; is_write = true; is_block = false; offset = offset; count = 4; payload = [] }
access_for (block_write offset payload) = write_access offset payload
access_for (quadlet_read offset) = record { is_lock = false; is_write = false; is_block = false; offset = offset; count = 4; payload = [] }
access_for (block_read offset count) = read_access offset count

-- A packet is the one that the operation asks for.
pub record IsAsked (start : List Disk) (past : List Moment) (bytes : List ℕ) : Type 0 where
  pub body : Body
  pub asks : manager_body (target_at start past).manager_asks (target_at start past).manager.outgoing ≡ Some body
  pub access : access_in_bytes bytes ≡ Some (access_for body)

abbrev pub ContentAt : List Disk → Moment → List Moment → Type 0
ContentAt start (said (notes.Sent serial generation zero to bytes)) past = is_its_packet (target_at start past) (target_at start (said (notes.Sent serial generation zero to bytes) ∷ past)) serial ≡ true → IsAsked start past bytes
ContentAt start moment past = Unit {0}

abbrev pub AreContents : List Disk → List Moment → Type 0
AreContents start past = EachMoment (ContentAt start) past

-- ---- by the phase of the operation

-- its ORB is read, where it stands; the halves of the EUI-64 are; the response is written; or the status block
abbrev pub AccessOf : Phase → Operation → Access → Type 0
AccessOf phases.Orb op access = access ≡ read_access op.orb 32
AccessOf phases.Status op access = (status : Status) × ((fifo : ℕ) × (access ≡ write_access fifo (status_block op.orb status)))
AccessOf (phases.HighEui orb) op access = access ≡ access_for (quadlet_read high_eui_at)
AccessOf (phases.LowEui orb high) op access = access ≡ access_for (quadlet_read low_eui_at)
AccessOf (phases.Response fifo) op access = access.is_write ≡ true

-- A packet of an operation, as it was sent: behind that history, with these bytes.
pub record WasAsked (start : List Disk) (past : List Moment) (serial : ℕ) (op : Operation) : Type 0 where
  pub generation : ℕ
  pub to : ℕ
  pub bytes : List ℕ
  pub later : List Moment
  pub before : List Moment
  pub is : later ++ said (notes.Sent serial generation zero to bytes) ∷ before ≡ past
  pub operation : (target_at start before).manager.operation ≡ Some op
  pub asked : IsAsked start before bytes
  pub access : Access
  pub spelled : access_in_bytes bytes ≡ Some access
  pub content : AccessOf op.phase op access

pub record AreAsked (start : List Disk) (past : List Moment) : Type 0 where
  pub each : (serial : ℕ) (op : Operation) → managed_for start past serial ≡ Some op → WasAsked start past serial op

-- After every line of every run, and behind each delivery of a line that may follow.
pub record ContentsLaw : Type 0 where
  pub after_lines : (line : ℕ) (run : Run) → IsRun run → 0 < run.units → run.units ≤ 4 → length run.start.disks ≡ run.units → AreAsked run.start.disks (history_of line run)
  pub between : (line : ℕ) (run : Run) → IsRun run → 0 < run.units → run.units ≤ 4 → length run.start.disks ≡ run.units → (next : ℕ) (event : Event) → DeliversMore event → (told : List (Option Told)) → MayAll told (begun (after (beginning run) run.entries)) → AreAsked run.start.disks (map said (after_all told (begun (after (beginning run) run.entries))).world.fresh ++ asked next event ∷ history_of line run)
