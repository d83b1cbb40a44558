-- The management ORB that the target keeps while it reads the EUI-64 of the node that sent it (NCITS 325-1998, management agent, login and reconnect): of an initiator
-- in the target's generation, and of the operation that it has under way, it is the ORB in the place of that operation.
use Rattle.std.specs.Prelude.{◌≡◌, ℕ, suc, true, List, Some}
use Rattle.bus_memory.specs.declared.window.Window.TheVariants as windows
use Rattle.bus_memory.specs.Windows.{start as start_of}
use Rattle.mgmt_agent.specs.declared.operation.Operation.{Operation}
use Rattle.mgmt_agent.specs.declared.operation.Phase.{Phase}
use Rattle.mgmt_agent.specs.declared.operation.Phase.TheVariants as phases
use Rattle.orb_layout.specs.declared.management.ManagementOrb.{ManagementOrb}
use Rattle.orb_layout.specs.ManagementOrbs.{management_orb}
use Rattle.rbc_disk.specs.Disk.{Disk}
use Rattle.sbp_journal.specs.Run.{Moment}
use Rattle.sbp_journal.specs.Wire.{terms}
use Rattle.sbp_laws.specs.Hosts.{Underway, host_at, is_management}
use Rattle.sbp_laws.specs.Packets.{id_for}
use Rattle.sbp_laws.specs.Served.{place_bytes, place_held}
use Rattle.sbp_laws.specs.Targets.{target_at}

-- a phase keeps this ORB
abbrev pub KeepsIn : Phase → ManagementOrb → Type 0
KeepsIn (phases.HighEui own) orb = own ≡ orb
KeepsIn (phases.LowEui own high) orb = own ≡ orb
KeepsIn phase orb = Unit {0}

-- the ORB in a place of an initiator, as the target reads it
abbrev pub orb_in_place : List Moment → (i place : ℕ) → ManagementOrb
orb_in_place past i place = management_orb (place_bytes (place_held past i place))

pub record IsKept (start : List Disk) (past : List Moment) (i : ℕ) : Type 0 where
  pub keeps : (op : Operation) (underway : Underway) → (target_at start past).manager.operation ≡ Some op → op.source ≡ id_for (terms past) 0 (suc i) → (terms past).generation 0 ≡ (terms past).generation (suc i) → (host_at past i).operation ≡ Some underway → is_management underway.operation ≡ true → op.orb ≡ start_of (windows.Management underway.place) → KeepsIn op.phase (orb_in_place past i underway.place)
