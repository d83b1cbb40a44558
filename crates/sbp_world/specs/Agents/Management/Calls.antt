-- Each call of a target changes its management as its notes do: the office of the terms that is a node's before a call is that node's after it,
-- once the first note of the turn and the sides that the call told were taken in.
use Rattle.std.specs.Prelude.{ℕ, ◌<◌, Bool, true, false, List, length, Option, Some, Result, Ok}
use Rattle.async_packet.specs.Labels.{LabelParts}
use Rattle.async_packet.specs.Packet.{Packet, header_in}
use Rattle.label_table.specs.declared.reply.Stale.{Stale}
use Rattle.label_table.specs.Layer.{Finding, of_request, of_response, expiring_step, judging_step, seeing_step}
use Rattle.orb_layout.specs.Replies.{Expired}
use Rattle.rbc_disk.specs.Disk.{Disk}
use Rattle.rbc_disk.specs.Runs.{Told}
use Rattle.sbp_journal.specs.Outgoings.{empty_outbox}
use Rattle.target_base.specs.declared.address.Demand.{Demand}
use Rattle.target_base.specs.declared.address.Demand.TheVariants as demands
use Rattle.sbp_target.specs.declared.purpose.Purpose.{Purpose}
use Rattle.sbp_target.specs.declared.purpose.Purpose.TheVariants as purposes
use Rattle.target_base.specs.Addresses.{demand_of}
use Rattle.sbp_target.specs.Nodes.{NodeState, Scene, scene}
use Rattle.sbp_target.specs.Receiving.{answer_in, received}
use Rattle.sbp_target.specs.Replies.{whole}
use Rattle.sbp_target.specs.Serving.{is_barred}
use Rattle.sbp_target.specs.Calls.{Call, after, alone, lets_expire, sees, sets_key, ticks}
use Rattle.sbp_world.specs.Agents.Management.Offices.{Agrees, Office, by_sides, cleared, replied, started, ticked, with_key}

-- ---- what the first note of a turn does
abbrev pub demanded : Demand → (source : ℕ) → Office → Office
demanded (demands.Manage orb) source o = started source orb o
demanded demand source o = o

abbrev pub requested : Bool → Packet → NodeState → Office → Office
requested true p node o = o
requested false p node o = demanded (demand_of (length node.rom) p) (header_in p).source o

abbrev pub delivered : Finding Purpose → NodeState → Office → Office
delivered (of_response p label (Some purposes.Management)) node o = replied (answer_in p) o
delivered (of_request p) node o = requested (is_barred node p) p node o
delivered finding node o = o

abbrev pub lapsed : Result (Option Purpose) Stale → Office → Office
lapsed (Ok (Some purposes.Management)) o = replied Expired o
lapsed result o = o

abbrev pub seen : Bool → Office → Office
seen true o = cleared o
seen false o = o

-- the office that was of a node is of the node of a scene, behind what was told
abbrev pub Follows : Office → Scene → Type 0
Follows o s = Agrees (by_sides s.outbox.sides o) s.node

-- ---- after every list of calls of a target that has a unit
pub record CallsKeep (node : NodeState) (o : Office) : Type 0 where
  pub deliveries : (told : Option Told) (disks : List Disk) (generation : ℕ) (bytes : List ℕ) → (let w = (received told generation bytes (whole (scene node empty_outbox) disks)).1 in Follows (delivered (judging_step node.layer generation bytes).0 node o) (scene w.node w.outbox))
  pub expiries : (peer : ℕ) (label : LabelParts) → Follows (lapsed (expiring_step node.layer peer label).0 o) (alone (lets_expire peer label) node)
  pub sights : (generation id : ℕ) → Follows (seen (seeing_step node.layer generation id).0 o) (alone (sees generation id) node)
  pub seconds : Follows (ticked o) (alone ticks node)
  pub keys : (unit : ℕ) (key : List ℕ) → Follows (with_key unit key o) (alone (sets_key unit key) node)

abbrev pub ManagementLaw : Type 0
ManagementLaw = (units ready : ℕ) (calls : List Call) (o : Office) → 0 < units → Agrees o (after units ready calls) → CallsKeep (after units ready calls) o
