-- What leaves for an operation of the management (NCITS 325-1998, management ORBs). Behind the answer to the request by which it is asked for its ORB is read, at the
-- address that was written and at the node that wrote it. As a reply brings it to where it writes, nothing leaves or one packet, to that node: it writes the bytes that
-- the target has for it, the response to the address that its ORB names for that, and the status block to the FIFO of its ORB.
use Rattle.std.specs.Prelude.{◌≡◌, ◌<◌, ◌⊎◌, ℕ, true, false, List, [], ◌∷◌, length, Option, Some, None}
use Rattle.async_packet.specs.Labels.{LabelParts}
use Rattle.async_packet.specs.Packet.{Packet, header_in}
use Rattle.label_table.specs.declared.judgement.Asked.{Asked}
use Rattle.label_table.specs.Bodies.{block_read, block_write}
use Rattle.label_table.specs.Layer.{Layer, asking_step, judging_step, of_request, of_response}
use Rattle.login_table.specs.declared.login.Login.{Login}
use Rattle.mgmt_agent.specs.declared.operation.Operation.{Operation}
use Rattle.mgmt_agent.specs.declared.operation.Phase.{Phase}
use Rattle.mgmt_agent.specs.declared.operation.Phase.TheVariants as phases
use Rattle.mgmt_agent.specs.Machine.{Machine}
use Rattle.orb_layout.specs.Replies.{Answer}
use Rattle.rbc_disk.specs.Disk.{Disk}
use Rattle.rbc_disk.specs.Runs.{Told}
use Rattle.sbp_journal.specs.declared.outbox.Outgoing.{Outgoing}
use Rattle.sbp_journal.specs.Outgoings.{empty_outbox}
use Rattle.sbp_laws.specs.Targets.{Decided, decided_by}
use Rattle.sbp_target.specs.declared.purpose.Purpose.{Purpose}
use Rattle.sbp_target.specs.declared.purpose.Purpose.TheVariants as purposes
use Rattle.sbp_target.specs.Calls.{Call, after}
use Rattle.sbp_target.specs.Nodes.{scene}
use Rattle.sbp_target.specs.Receiving.{answer_in, received}
use Rattle.sbp_target.specs.Replies.{whole}
use Rattle.sbp_target.specs.Serving.{is_barred}
use Rattle.target_base.specs.declared.address.Demand.TheVariants as demands
use Rattle.target_base.specs.Addresses.{demand_of}
use Rattle.sbp_target.specs.Histories.Layers.{request, response}
use Rattle.sbp_world.specs.Sessions.Writing.{Writes, is_written}

-- where it goes, by the ORB that was decided
abbrev pub GoesTo : Phase → Decided → ℕ → Type 0
GoesTo (phases.Response fifo) on at = at ≡ on.orb.second
GoesTo phases.Status on at = at ≡ on.orb.fifo
GoesTo phase on at = ⊥

-- the ORB of the operation that a reply comes for: the reply brings it to be decided, or it was, and the operation writes of it
pub data IsOrbOf (m : Machine) (places : List (Option Login)) (answer : Answer) (on : Decided) : Type 0 where
  brings : decided_by m.operation answer ≡ Some on → IsOrbOf m places answer on
  goes_on : (was : Operation) → m.operation ≡ Some was → Writes was.phase was on places m.outgoing → IsOrbOf m places answer on

-- the one packet, under a label that was free
pub record IsHanded (packets : List Outgoing) (op : Operation) (outgoing : List ℕ) (on : Decided) : Type 0 where
  pub at : ℕ
  pub goes : GoesTo op.phase on at
  pub layer : Layer Purpose
  pub asked : Asked
  pub made : (asking_step layer op.source (block_write at outgoing) purposes.Management).0 ≡ Some asked
  pub packets_are : packets ≡ request op.source asked ∷ []

-- Behind the answer to the request by which an operation is asked for, where none was under way, nothing leaves or its ORB is read: the 32 bytes at the address that was
-- written, at the node that wrote it.
pub record ReadsOrb (packets : List Outgoing) (packet : Packet) (orb : ℕ) (answer : List ℕ) : Type 0 where
  pub layer : Layer Purpose
  pub asked : Asked
  pub made : (asking_step layer (header_in packet).source (block_read orb 32) purposes.Management).0 ≡ Some asked
  pub packets_are : packets ≡ response packet answer ∷ request (header_in packet).source asked ∷ []

pub record IsStarted (packets : List Outgoing) (packet : Packet) (orb : ℕ) : Type 0 where
  pub answer : List ℕ
  pub leaves : (packets ≡ response packet answer ∷ []) ⊎ ReadsOrb packets packet orb answer

-- after every list of calls of a target that has a unit
pub record HandedLaw : Type 0 where
  pub replies : (units ready : ℕ) (calls : List Call) → 0 < units → (told : Option Told) (disks : List Disk) (generation : ℕ) (bytes : List ℕ) (packet : Packet) (label : LabelParts) (on : Decided) (op : Operation) → (let node = after units ready calls in let x = (received told generation bytes (whole (scene node empty_outbox) disks)).1 in (judging_step node.layer generation bytes).0 ≡ of_response packet label (Some purposes.Management) → IsOrbOf node.manager node.logins.places (answer_in packet) on → x.node.manager.operation ≡ Some op → is_written op.phase ≡ true → (x.outbox.packets ≡ []) ⊎ IsHanded x.outbox.packets op x.node.manager.outgoing on)
  pub starts : (units ready : ℕ) (calls : List Call) → 0 < units → (told : Option Told) (disks : List Disk) (generation : ℕ) (bytes : List ℕ) (packet : Packet) (orb : ℕ) → (let node = after units ready calls in (judging_step node.layer generation bytes).0 ≡ of_request packet → is_barred node packet ≡ false → demand_of (length node.rom) packet ≡ demands.Manage orb → node.manager.operation ≡ None → IsStarted (received told generation bytes (whole (scene node empty_outbox) disks)).1.outbox.packets packet orb)
