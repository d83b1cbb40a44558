-- Whose page tables and data the agents of the target read (NCITS 325-1998, command block agents, page tables and data buffers), in runs in which no initiator injected packets, or few logins were given: what an
-- agent waits for, to read in a page table or a buffer of an initiator that injected none and has a list open, is the main transaction of the agent that has this list, and stands in the slot of
-- the first ORB of the list that has not ended.
use Rattle.std.specs.Prelude.{◌≡◌, ◌<◌, ◌≤◌, ℕ, suc, true, false, List, ◌∷◌, ◌++◌, length, map, Option, Some, None}
use Rattle.bus_memory.specs.declared.window.Window.{Window}
use Rattle.bus_memory.specs.declared.window.Window.TheVariants as windows
use Rattle.bus_memory.specs.Windows.{window_at}
use Rattle.command_agent.specs.declared.step.Which.{Which}
use Rattle.command_agent.specs.declared.step.Which.TheVariants.{Main}
use Rattle.rbc_disk.specs.Disk.{Disk}
use Rattle.rbc_disk.specs.Runs.{Told}
use Rattle.sbp_journal.specs.Addresses.{Access}
use Rattle.sbp_journal.specs.Run.{Moment, asked, said}
use Rattle.sbp_journal.specs.Wire.{terms}
use Rattle.sbp_laws.specs.Lists.{slot_at}
use Rattle.sbp_laws.specs.Packets.{access_at, answered_at, receiver_in}
use Rattle.sbp_laws.specs.Targets.{agent_at, for_agent, over, purpose_of, target_at}
use Rattle.sbp_laws.specs.Terms.{ends}
use Rattle.sbp_world.specs.Histories.{history_of}
use Rattle.sbp_world.specs.Runs.{Run, after, beginning}
use Rattle.sbp_world.specs.Settling.{MayAll, after_all}
use Rattle.sbp_world.specs.Telling.{holder}
use Rattle.sbp_world.specs.Worlds.{WorldState, begun}
use Rattle.sbp_world.specs.Agents.AskedRuns.{serial_of}
use Rattle.sbp_world.specs.Hosts.Runs.{IsRun, more_deliveries}
use Rattle.sbp_world.specs.Lists.FedRuns.{IsOwnOrOther}
use Rattle.sbp_world.specs.Lists.FewLogins.{IsTameOrFew}
use Rattle.sbp_world.specs.Lists.Needs.{IsCalm, OpenBefore, OpenBetween, initiator_in, is_open_at}

-- the slot in whose page table or buffer an address stands
abbrev pub data_slot : Option Window → Option ℕ
data_slot (Some (windows.Table slot)) = Some slot
data_slot (Some (windows.Buffer slot)) = Some slot
data_slot _ = None

-- An agent waits for a read of bytes in the page table or the buffer of a slot of an initiator.
pub record ReadsData (start : List Disk) (past : List Moment) (place : ℕ) (which : Which) (serial i slot : ℕ) : Type 0 where
  pub waits : serial_of which (agent_at (over (target_at start past)) place) ≡ Some serial
  pub to : receiver_in ((terms past).sent serial) ≡ Some (suc i)
  pub access : Access
  pub is : access_at (terms past) serial ≡ Some access
  pub reads : access.is_write ≡ false
  pub some : 0 < access.count
  pub stands : data_slot (window_at access.offset) ≡ Some slot

-- It is the agent of this place, by its main transaction, in the slot of the first ORB that has not ended.
pub record IsOwnRead (past : List Moment) (place i n other : ℕ) (which : Which) (slot : ℕ) : Type 0 where
  pub place_is : other ≡ place
  pub main : which ≡ Main
  pub slot_is : slot ≡ slot_at past i n (ends past i n)

abbrev pub AreOwnReads : List Disk → List Moment → WorldState → Type 0
AreOwnReads start past w =
    (place : ℕ) → place < 8 → is_open_at w place ≡ true → IsCalm past (initiator_in w place) → (n : ℕ) → (holder w place).list ≡ Some n → (other : ℕ) → other < 8 → (which : Which) (serial slot : ℕ) → ReadsData start past other which serial (initiator_in w place) slot → IsOwnRead past place (initiator_in w place) n other which slot

-- A packet that the target gets, which answers what an agent waits for, brings of an initiator that injected none and has a list open what the main transaction of the agent of this list brought, or what begins elsewhere.
abbrev pub AreOwnGots : List Disk → List Moment → WorldState → Type 0
AreOwnGots start past w =
    (place : ℕ) → place < 8 → is_open_at w place ≡ true → IsCalm past (initiator_in w place) → (serial request other slot : ℕ) (which : Which) → answered_at (terms past) serial ≡ Some request → purpose_of (over (target_at start past)) request ≡ for_agent other which → IsOwnOrOther start past (initiator_in w place) place slot serial

-- After every line of every run, and behind each delivery of a line that may follow, where lists were open as they should be before in this run.
pub record OwnReadsLaw : Type 0 where
  pub after_lines : (line : ℕ) (run : Run) → IsRun run → 0 < run.units → run.units ≤ 4 → length run.start.disks ≡ run.units → OpenBefore line run run.entries → IsTameOrFew (history_of line run) → AreOwnReads run.start.disks (history_of line run) (after (beginning run) run.entries).world
  pub between : (line : ℕ) (run : Run) → IsRun run → 0 < run.units → run.units ≤ 4 → length run.start.disks ≡ run.units → (next : ℕ) (most : Option ℕ) (told : List (Option Told)) → MayAll told (begun (after (beginning run) run.entries)) → OpenBetween line run next (more_deliveries most) told → (let w = (after_all told (begun (after (beginning run) run.entries))).world in let now = map said w.fresh ++ asked next (more_deliveries most) ∷ history_of line run in IsTameOrFew now → AreOwnReads run.start.disks now w)

pub record OwnGotsLaw : Type 0 where
  pub after_lines : (line : ℕ) (run : Run) → IsRun run → 0 < run.units → run.units ≤ 4 → length run.start.disks ≡ run.units → OpenBefore line run run.entries → IsTameOrFew (history_of line run) → AreOwnGots run.start.disks (history_of line run) (after (beginning run) run.entries).world
  pub between : (line : ℕ) (run : Run) → IsRun run → 0 < run.units → run.units ≤ 4 → length run.start.disks ≡ run.units → (next : ℕ) (most : Option ℕ) (told : List (Option Told)) → MayAll told (begun (after (beginning run) run.entries)) → OpenBetween line run next (more_deliveries most) told → (let w = (after_all told (begun (after (beginning run) run.entries))).world in let now = map said w.fresh ++ asked next (more_deliveries most) ∷ history_of line run in IsTameOrFew now → AreOwnGots run.start.disks now w)
