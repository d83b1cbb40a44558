-- The management ORB that the target read last, while a response of its operation is on its way (NCITS 325-1998, management agent, login response and query response): of an
-- initiator in the target's generation, and of the operation that it has under way, it is the ORB in the place of that operation.
use Rattle.std.specs.Prelude.{◌≡◌, ℕ, suc, true, List, Some}
use Rattle.bus_memory.specs.declared.window.Window.TheVariants as windows
use Rattle.bus_memory.specs.Windows.{start as start_of}
use Rattle.mgmt_agent.specs.declared.operation.Operation.{Operation}
use Rattle.mgmt_agent.specs.declared.operation.Phase.TheVariants as phases
use Rattle.rbc_disk.specs.Disk.{Disk}
use Rattle.sbp_journal.specs.Run.{Moment}
use Rattle.sbp_journal.specs.Wire.{terms}
use Rattle.sbp_laws.specs.Hosts.{Underway, host_at, is_management}
use Rattle.sbp_laws.specs.Packets.{id_for}
use Rattle.sbp_laws.specs.Targets.{target_at}
use Rattle.sbp_world.specs.Lists.CarriedOrbs.{last_read}
use Rattle.sbp_world.specs.Lists.KeptOrbs.{orb_in_place}

pub record IsLastRead (start : List Disk) (past : List Moment) (i : ℕ) : Type 0 where
  pub last : (op : Operation) (fifo : ℕ) → (target_at start past).manager.operation ≡ Some op → op.phase ≡ phases.Response fifo → op.source ≡ id_for (terms past) 0 (suc i) → (terms past).generation 0 ≡ (terms past).generation (suc i) → (underway : Underway) → (host_at past i).operation ≡ Some underway → is_management underway.operation ≡ true → op.orb ≡ start_of (windows.Management underway.place) → last_read start past ≡ orb_in_place past i underway.place
