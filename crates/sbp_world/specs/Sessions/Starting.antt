-- How an operation of the target's management comes under way (NCITS 325-1998, management agent): by a request to MANAGEMENT_AGENT that the target serves while
-- none is, and no otherwise. So while an operation is under way it is that of the node which asked for it, with the address that was written.
use Rattle.std.specs.Prelude.{◌≡◌, ◌⊎◌, ◌<◌, ℕ, false, List, length, Option, Some, None}
use Rattle.async_packet.specs.Labels.{LabelParts}
use Rattle.async_packet.specs.Packet.{Packet, header_in}
use Rattle.label_table.specs.Layer.{judging_step, of_request}
use Rattle.mgmt_agent.specs.declared.operation.Operation.{Operation}
use Rattle.mgmt_agent.specs.declared.operation.Phase.TheVariants as phases
use Rattle.rbc_disk.specs.Disk.{Disk}
use Rattle.rbc_disk.specs.Runs.{Told}
use Rattle.sbp_journal.specs.Outgoings.{empty_outbox}
use Rattle.sbp_target.specs.Calls.{Call, after, alone, lets_expire, sees, sets_key, ticks}
use Rattle.sbp_target.specs.Nodes.{NodeState, scene}
use Rattle.sbp_target.specs.Receiving.{received}
use Rattle.sbp_target.specs.Replies.{whole}
use Rattle.sbp_target.specs.Serving.{is_barred}
use Rattle.target_base.specs.declared.address.Demand.TheVariants as demands
use Rattle.target_base.specs.Addresses.{demand_of}

-- an operation was under way, of the same node and with the same address
pub record GoesOn (before : Option Operation) (now : Operation) : Type 0 where
  pub was : Operation
  pub is : before ≡ Some was
  pub source : was.source ≡ now.source
  pub orb : was.orb ≡ now.orb

-- a packet asks for it, where none was under way
pub record IsAsked (node : NodeState) (generation : ℕ) (bytes : List ℕ) (now : Operation) : Type 0 where
  pub packet : Packet
  pub found : (judging_step node.layer generation bytes).0 ≡ of_request packet
  pub heard : is_barred node packet ≡ false
  pub asks : demand_of (length node.rom) packet ≡ demands.Manage now.orb
  pub source : (header_in packet).source ≡ now.source
  pub phase : now.phase ≡ phases.Orb
  pub idle : node.manager.operation ≡ None

-- Where an operation is under way after a call of a target, it went on, or a packet asked for it.
pub record OperationsStart (node : NodeState) : Type 0 where
  pub deliveries : (told : Option Told) (disks : List Disk) (generation : ℕ) (bytes : List ℕ) (now : Operation) → (received told generation bytes (whole (scene node empty_outbox) disks)).1.node.manager.operation ≡ Some now → GoesOn node.manager.operation now ⊎ IsAsked node generation bytes now
  pub expiries : (peer : ℕ) (label : LabelParts) (now : Operation) → (alone (lets_expire peer label) node).node.manager.operation ≡ Some now → GoesOn node.manager.operation now
  pub sights : (generation own : ℕ) (now : Operation) → (alone (sees generation own) node).node.manager.operation ≡ Some now → GoesOn node.manager.operation now
  pub seconds : (now : Operation) → (alone ticks node).node.manager.operation ≡ Some now → GoesOn node.manager.operation now
  pub keys : (unit : ℕ) (key : List ℕ) (now : Operation) → (alone (sets_key unit key) node).node.manager.operation ≡ Some now → GoesOn node.manager.operation now

-- after every list of calls of a target that has a unit
abbrev pub StartingLaw : Type 0
StartingLaw = (units ready : ℕ) (calls : List Call) → 0 < units → OperationsStart (after units ready calls)
