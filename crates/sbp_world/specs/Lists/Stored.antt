-- The response of a login that its initiator got stands in the buffer of the login's place until the target hears the answer (NCITS 325-1998, login response).
use Rattle.std.specs.Prelude.{◌≡◌, ◌<◌, ◌≤◌, ℕ, suc, List, [], ◌++◌, length, slice_index_or, Some}
use Rattle.bus_memory.specs.declared.window.Window.TheVariants as windows
use Rattle.bus_memory.specs.Windows.{start as start_of}
use Rattle.mgmt_agent.specs.declared.operation.Operation.{Operation}
use Rattle.mgmt_agent.specs.declared.operation.Phase.TheVariants as phases
use Rattle.rbc_disk.specs.Disk.{Disk}
use Rattle.sbp_journal.specs.declared.operation.Operation.TheVariants as operations
use Rattle.sbp_journal.specs.Run.{Moment}
use Rattle.sbp_journal.specs.Wire.{terms}
use Rattle.sbp_laws.specs.Hosts.{Underway, host_at}
use Rattle.sbp_laws.specs.Packets.{id_for, receiver_in}
use Rattle.sbp_laws.specs.Targets.{target_at}

-- in one generation an operation of the target responds to the login that an initiator has under way, and its request went to that
pub record IsResponding (start : List Disk) (past : List Moment) (i r : ℕ) (underway : Underway) : Type 0 where
  pub op : Operation
  pub fifo : ℕ
  pub operation : (target_at start past).manager.operation ≡ Some op
  pub phase : op.phase ≡ phases.Response fifo
  pub source : op.source ≡ id_for (terms past) 0 (suc i)
  pub same : (terms past).generation 0 ≡ (terms past).generation (suc i)
  pub manages : (target_at start past).manages ≡ Some r
  pub to : receiver_in ((terms past).sent r) ≡ Some (suc i)
  pub has : (host_at past i).operation ≡ Some underway
  pub login : underway.operation ≡ operations.Login
  pub orb : op.orb ≡ start_of (windows.Management underway.place)
  pub few : length (target_at start past).manager.outgoing ≤ 256

-- bytes stand at the front of others
pub record Begins (bytes out : List ℕ) : Type 0 where
  pub rest : List ℕ
  pub is : bytes ≡ out ++ rest

-- once it was served
pub record IsInBuffer (start : List Disk) (past : List Moment) (i : ℕ) : Type 0 where
  pub stored : (r : ℕ) (underway : Underway) → IsResponding start past i r underway → 0 < (terms past).served r → Begins (slice_index_or (host_at past i).responses underway.place []) (target_at start past).manager.outgoing
