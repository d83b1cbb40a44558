-- When the reads of the agents were sent, in every run (NCITS 325-1998, command block agents and ORBs in an initiator's memory): what an agent waits for, to
-- read in a slot of an initiator that injected no packets, be it the ORB, its page table or its buffer, was sent when the ORB that the slot has now had been
-- appended. So what the response brings is of that ORB, though a slot has many ORBs one after the other.
use Rattle.std.specs.Prelude.{◌≡◌, ◌<◌, ◌≤◌, ℕ, suc, false, List, ◌∷◌, ◌++◌, length, map, Option, Some, None}
use Rattle.bus_memory.specs.declared.window.Window.{Window}
use Rattle.bus_memory.specs.declared.window.Window.TheVariants as windows
use Rattle.bus_memory.specs.Windows.{window_at}
use Rattle.command_agent.specs.declared.step.Which.{Which}
use Rattle.rbc_disk.specs.Disk.{Disk}
use Rattle.rbc_disk.specs.Runs.{Told}
use Rattle.sbp_journal.specs.Addresses.{Access}
use Rattle.sbp_journal.specs.Run.{Moment, asked, said}
use Rattle.sbp_journal.specs.Wire.{terms}
use Rattle.sbp_journal.specs.declared.event.Event.{Event}
use Rattle.sbp_laws.specs.CarriedBytes.{before_sent}
use Rattle.sbp_laws.specs.Lists.{orb, prepared_in}
use Rattle.sbp_laws.specs.Packets.{access_at, receiver_in}
use Rattle.sbp_laws.specs.Targets.{agent_at, over, target_at}
use Rattle.sbp_laws.specs.Terms.{appends}
use Rattle.sbp_world.specs.Histories.{history_of}
use Rattle.sbp_world.specs.Runs.{Run, after, beginning}
use Rattle.sbp_world.specs.Settling.{MayAll, after_all}
use Rattle.sbp_world.specs.Worlds.{begun}
use Rattle.sbp_world.specs.Agents.Management.Terms.{DeliversMore}
use Rattle.sbp_world.specs.Agents.AskedRuns.{serial_of}
use Rattle.sbp_world.specs.Hosts.Runs.{IsRun}
use Rattle.sbp_world.specs.Lists.Needs.{IsCalm, OpenAfter, OpenBefore, OpenBehind, OpenBetween}

-- the slot in which an address stands
abbrev pub slot_in : Option Window → Option ℕ
slot_in (Some (windows.Orb slot)) = Some slot
slot_in (Some (windows.Table slot)) = Some slot
slot_in (Some (windows.Buffer slot)) = Some slot
slot_in _ = None

-- The agent of a place waits for a read in a slot of an initiator, which has the ORB with this name.
pub record ReadsIn (start : List Disk) (past : List Moment) (place : ℕ) (which : Which) (serial i slot n k : ℕ) : Type 0 where
  pub waits : serial_of which (agent_at (over (target_at start past)) place) ≡ Some serial
  pub to : receiver_in ((terms past).sent serial) ≡ Some (suc i)
  pub calm : IsCalm past i
  pub access : Access
  pub is : access_at (terms past) serial ≡ Some access
  pub reads : access.is_write ≡ false
  pub some : 0 < access.count
  pub stands : slot_in (window_at access.offset) ≡ Some slot
  pub there : prepared_in past i slot ≡ Some (orb n k)

abbrev pub AreSentBehind : List Disk → List Moment → Type 0
AreSentBehind start past = (place : ℕ) → place < 8 → (which : Which) (serial i slot n k : ℕ) → ReadsIn start past place which serial i slot n k → k < appends (before_sent past serial) i n

-- After every line of every run, and behind each delivery of a line that may follow, where lists were open as they should be before in this run, and are so now.
pub record SentReadsLaw : Type 0 where
  pub after_lines : (line : ℕ) (run : Run) → IsRun run → 0 < run.units → run.units ≤ 4 → length run.start.disks ≡ run.units → OpenBefore line run run.entries → OpenAfter line run run.entries → AreSentBehind run.start.disks (history_of line run)
  pub between : (line : ℕ) (run : Run) → IsRun run → 0 < run.units → run.units ≤ 4 → length run.start.disks ≡ run.units → (next : ℕ) (event : Event) → DeliversMore event → (told : List (Option Told)) → MayAll told (begun (after (beginning run) run.entries)) → OpenBetween line run next event told → OpenBehind (asked next event ∷ history_of line run) told (begun (after (beginning run) run.entries)) → AreSentBehind run.start.disks (map said (after_all told (begun (after (beginning run) run.entries))).world.fresh ++ asked next event ∷ history_of line run)
