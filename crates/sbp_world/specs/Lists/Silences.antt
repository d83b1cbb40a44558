-- An operation that ends lists (NCITS 325-1998, logout and task management) has no response: while an initiator in the target's generation has one under way the
-- target writes its status block alone.
use Rattle.std.specs.Prelude.{◌≡◌, ℕ, suc, true, List, Some}
use Rattle.bus_memory.specs.declared.window.Window.TheVariants as windows
use Rattle.bus_memory.specs.Windows.{start as start_of}
use Rattle.mgmt_agent.specs.declared.operation.Operation.{Operation}
use Rattle.mgmt_agent.specs.declared.operation.Phase.TheVariants as phases
use Rattle.rbc_disk.specs.Disk.{Disk}
use Rattle.sbp_journal.specs.Run.{Moment}
use Rattle.sbp_journal.specs.Wire.{terms}
use Rattle.sbp_laws.specs.Actions.{cuts_list}
use Rattle.sbp_laws.specs.Hosts.{Underway, host_at, is_management}
use Rattle.sbp_laws.specs.Packets.{id_for}
use Rattle.sbp_laws.specs.Targets.{target_at}

pub record IsSilent (start : List Disk) (past : List Moment) (i : ℕ) : Type 0 where
  pub none : (op : Operation) (fifo : ℕ) (underway : Underway) → (target_at start past).manager.operation ≡ Some op → op.phase ≡ phases.Response fifo → op.source ≡ id_for (terms past) 0 (suc i) → (terms past).generation 0 ≡ (terms past).generation (suc i) → (host_at past i).operation ≡ Some underway → is_management underway.operation ≡ true → cuts_list (Some underway.operation) ≡ true → op.orb ≡ start_of (windows.Management underway.place) → ⊥
