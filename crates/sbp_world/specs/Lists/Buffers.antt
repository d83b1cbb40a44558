-- What has the target write into no response buffer of an initiator but a response (NCITS 325-1998, login response and status FIFO): neither a live login for its node has its FIFO
-- there, nor the ORB of an operation.
use Rattle.std.specs.Prelude.{◌≡◌, ℕ, suc, true, List, Some, Ok}
use Rattle.async_packet.specs.Labels.{LabelParts}
use Rattle.async_packet.specs.Packet.{Packet}
use Rattle.bus_memory.specs.declared.window.Window.TheVariants as windows
use Rattle.bus_memory.specs.Windows.{window_at}
use Rattle.label_table.specs.Layer.{judging_step, of_response}
use Rattle.login_table.specs.declared.login.Login.{Login}
use Rattle.login_table.specs.Table.{is_live}
use Rattle.mgmt_agent.specs.declared.operation.Operation.{Operation}
use Rattle.mgmt_agent.specs.declared.operation.Phase.TheVariants as phases
use Rattle.orb_layout.specs.declared.management.ManagementOrb.{ManagementOrb}
use Rattle.orb_layout.specs.ManagementOrbs.{management_orb}
use Rattle.orb_layout.specs.Replies.{payload_of}
use Rattle.packet_store.specs.declared.sent.Sent.{Sent}
use Rattle.sbp_bus.specs.Generations.{node_of}
use Rattle.sbp_target.specs.declared.purpose.Purpose.TheVariants as purposes
use Rattle.sbp_target.specs.Nodes.{login_at}
use Rattle.sbp_target.specs.Receiving.{answer_in}
use Rattle.sbp_world.specs.Worlds.{WorldState}
use Rattle.sbp_world.specs.Lists.Needs.{IsFor}

-- an address is in no response buffer
abbrev pub IsClearFifo : ℕ → Type 0
IsClearFifo fifo = (place : ℕ) → window_at fifo ≡ Some (windows.Response place) → ⊥

-- the FIFO of the ORB of an operation of an initiator's node: while its response waits to be written, while the EUI-64 is read, and as the ORB is read
pub record AreFifosClear (i : ℕ) (w : WorldState) : Type 0 where
  pub kept : (op : Operation) (fifo : ℕ) → w.target.manager.operation ≡ Some op → node_of w.generations 0 op.source ≡ Some (suc i) → op.phase ≡ phases.Response fifo → IsClearFifo fifo
  pub low : (op : Operation) (orb : ManagementOrb) (high : ℕ) → w.target.manager.operation ≡ Some op → node_of w.generations 0 op.source ≡ Some (suc i) → op.phase ≡ phases.LowEui orb high → IsClearFifo orb.fifo
  pub read : (sent : Sent) → IsFor w sent → (p : Packet) (label : LabelParts) → (judging_step w.target.layer sent.generation sent.bytes).0 ≡ of_response p label (Some purposes.Management) → (op : Operation) → w.target.manager.operation ≡ Some op → node_of w.generations 0 op.source ≡ Some (suc i) → op.phase ≡ phases.Orb → (bytes : List ℕ) → payload_of (answer_in p) 32 ≡ Ok bytes → IsClearFifo (management_orb bytes).fifo

-- and those of live logins for an initiator's node
abbrev pub AreLoginsClear : ℕ → WorldState → Type 0
AreLoginsClear i w = (place : ℕ) (login : Login) → login_at w.target place ≡ Some login → is_live login ≡ true → node_of w.generations 0 login.node ≡ Some (suc i) → IsClearFifo login.fifo

pub record AreBuffersClear (i : ℕ) (w : WorldState) : Type 0 where
  pub logins : AreLoginsClear i w
  pub fifos : AreFifosClear i w
