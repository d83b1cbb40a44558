-- The management ORB that the target reads, in every run (NCITS 325-1998, management agent): the target has an operation whose ORB it reads, in the place of an
-- operation that an initiator has under way, and the read was sent behind the first request of that. Then a response that is no injected one, and that tells
-- bytes in answer to the read, brings the ORB that stands in the place.
use Rattle.std.specs.Prelude.{◌≡◌, ◌<◌, ◌≤◌, ℕ, suc, false, List, ◌∷◌, ◌++◌, map, length, Option, Some}
use Rattle.bus_memory.specs.declared.window.Window.TheVariants as windows
use Rattle.bus_memory.specs.Windows.{start as start_of}
use Rattle.mgmt_agent.specs.declared.operation.Operation.{Operation}
use Rattle.mgmt_agent.specs.declared.operation.Phase.TheVariants as phases
use Rattle.orb_layout.specs.Replies.{Payload}
use Rattle.rbc_disk.specs.Disk.{Disk}
use Rattle.rbc_disk.specs.Runs.{Told}
use Rattle.sbp_journal.specs.Run.{Moment, asked, said}
use Rattle.sbp_journal.specs.Transactions.{Sending}
use Rattle.sbp_journal.specs.Wire.{terms}
use Rattle.sbp_laws.specs.Hosts.{Underway, host_at}
use Rattle.sbp_laws.specs.Packets.{answer_in, packet_at, receiver_in}
use Rattle.sbp_laws.specs.Served.{place_bytes, place_held}
use Rattle.sbp_laws.specs.Targets.{target_at}
use Rattle.sbp_world.specs.Histories.{history_of}
use Rattle.sbp_world.specs.Runs.{Run, after, beginning}
use Rattle.sbp_world.specs.Settling.{MayAll, after_all}
use Rattle.sbp_world.specs.Worlds.{begun}
use Rattle.sbp_world.specs.Hosts.Runs.{IsRun, more_deliveries}

-- a packet tells bytes in answer to a packet that an initiator got
pub record IsAnswered (past : List Moment) (i response read : ℕ) (bytes : List ℕ) : Type 0 where
  pub own : (packet : Sending) → (terms past).sent response ≡ Some packet → packet.injected ≡ false
  pub answers : (terms past).answers response ≡ Some read
  pub of_initiator : receiver_in ((terms past).sent read) ≡ Some (suc i)
  pub tells : answer_in (packet_at (terms past) response) ≡ Payload bytes

-- the target reads the ORB of an operation that an initiator has under way
pub record IsReading (start : List Disk) (past : List Moment) (i read : ℕ) (underway : Underway) : Type 0 where
  pub op : Operation
  pub operation : (target_at start past).manager.operation ≡ Some op
  pub phase : op.phase ≡ phases.Orb
  pub manages : (target_at start past).manages ≡ Some read
  pub has : (host_at past i).operation ≡ Some underway
  pub orb : op.orb ≡ start_of (windows.Management underway.place)

abbrev pub BringOrbs : List Disk → List Moment → ℕ → Type 0
BringOrbs start past i = (read response : ℕ) (underway : Underway) (bytes : List ℕ) → IsReading start past i read underway → underway.first ≤ read → IsAnswered past i response read bytes → bytes ≡ place_bytes (place_held past i underway.place)

-- After every line of every run, and behind each delivery of a line that delivers one packet after the other.
pub record ReadOrbsLaw : Type 0 where
  pub after_lines : (line : ℕ) (run : Run) → IsRun run → 0 < run.units → run.units ≤ 4 → length run.start.disks ≡ run.units → (i : ℕ) → i < run.initiators → BringOrbs run.start.disks (history_of line run) i
  pub between : (line : ℕ) (run : Run) → IsRun run → 0 < run.units → run.units ≤ 4 → length run.start.disks ≡ run.units → (next : ℕ) (most : Option ℕ) (told : List (Option Told)) → MayAll told (begun (after (beginning run) run.entries)) → (i : ℕ) → i < run.initiators → BringOrbs run.start.disks (map said (after_all told (begun (after (beginning run) run.entries))).world.fresh ++ asked next (more_deliveries most) ∷ history_of line run) i
