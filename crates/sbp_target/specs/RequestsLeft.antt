-- How many requests a target is yet to send of itself (NCITS 325-1998, command block agents, management agent, unsolicited status): each of its transactions follows the reply to
-- the one before, or a write of a register. So with each packet that is delivered this number falls by the requests that are sent; what raises it is a register that is
-- written, and the turn of another ORB, which brings its share.
use Rattle.std.specs.Prelude.{◌≡◌, ◌≤◌, ◌<◌, zero, suc, ℕ, ◌+◌, ◌==◌, ◌&&◌, ◌||◌, not, Bool, true, false, if◌then◌else◌, List, length, Option, Some, None}
use Rattle.std.specs.List.{list_any}
use Rattle.async_packet.specs.Labels.{LabelParts}
use Rattle.async_packet.specs.Packet.{Packet, header_in}
use Rattle.label_table.specs.Layer.{Finding, of_response, of_request, judging_step}
use Rattle.login_table.specs.declared.login.Login.{Login}
use Rattle.orb_layout.specs.Pointers.{bit}
use Rattle.rbc_disk.specs.Disk.{Disk}
use Rattle.rbc_disk.specs.Runs.{Told}
use Rattle.mgmt_agent.specs.declared.operation.Operation.{Operation}
use Rattle.mgmt_agent.specs.declared.operation.Phase.{Phase}
use Rattle.mgmt_agent.specs.declared.operation.Phase.TheVariants as phases
use Rattle.command_agent.specs.declared.step.Which.TheVariants.{Main}
use Rattle.command_agent.specs.Machine as machines
use Rattle.command_agent.specs.Counting.{mark, left_of}
use Rattle.command_agent.specs.Making.{is_at_work, Brings}
use Rattle.sbp_journal.specs.declared.side.Side.{Side}
use Rattle.sbp_journal.specs.declared.side.Side.TheVariants as sides
use Rattle.sbp_journal.specs.Outgoings.{empty_outbox}
use Rattle.target_base.specs.declared.address.Access.{Access}
use Rattle.target_base.specs.declared.address.Access.TheVariants as accesses
use Rattle.target_base.specs.declared.address.Demand.{Demand}
use Rattle.target_base.specs.declared.address.Demand.TheVariants as demands
use Rattle.target_base.specs.Addresses.{demand_of}
use Rattle.sbp_target.specs.declared.desk.Desk.{Desk}
use Rattle.sbp_target.specs.declared.purpose.Purpose.{Purpose}
use Rattle.sbp_target.specs.declared.purpose.Purpose.TheVariants as purposes
use Rattle.sbp_target.specs.Desks.{which_in}
use Rattle.sbp_target.specs.Nodes.{NodeState, Scene, scene, desk_at}
use Rattle.sbp_target.specs.Receiving.{TellsIn, answer_in, received, with_layer}
use Rattle.sbp_target.specs.Replies.{Whole, scene_of, served_login, whole}
use Rattle.sbp_target.specs.Requests.{requests}

-- ---- the number
-- of the places below a number, all together
unfoldable pub sum_below : ℕ → (ℕ → ℕ) → ℕ
sum_below zero f = 0
sum_below (suc n) f = sum_below n f + f n

-- of a place: those of its present ORB, which has at most so many page tables and chunks; a read of the next pointer for the doorbell mark; an unsolicited status where that is
-- enabled
abbrev pub desk_left : ℕ → ℕ → Desk → ℕ
desk_left tables chunks desk = left_of tables chunks desk.agent + (mark desk.agent + bit desk.is_enabled)

abbrev pub place_left : (tables chunks : ℕ → ℕ) → NodeState → ℕ → ℕ
place_left tables chunks node place = desk_left (tables place) (chunks place) (desk_at node place)

-- of the management operation, behind its request under way: the two halves of the EUI-64, the response and the status block
abbrev pub phase_left : Phase → ℕ
phase_left phases.Orb = 4
phase_left (phases.HighEui orb) = 3
phase_left (phases.LowEui orb high) = 2
phase_left (phases.Response fifo) = 1
phase_left phases.Status = 0

abbrev pub operation_left : Option Operation → ℕ
operation_left None = 0
operation_left (Some operation) = phase_left operation.phase

-- of all places and the operation
abbrev pub node_left : (tables chunks : ℕ → ℕ) → NodeState → ℕ
node_left tables chunks node = sum_below 8 (place_left tables chunks node) + operation_left node.manager.operation

-- ---- what raises it
-- a request that writes a register: DOORBELL and UNSOLICITED_STATUS_ENABLE bring one, MANAGEMENT_AGENT an operation
abbrev pub access_due : Access → ℕ
access_due accesses.Ring = 1
access_due accesses.Enable = 1
access_due access = 0

abbrev pub demand_due : Demand → ℕ
demand_due (demands.Manage orb) = 5
demand_due (demands.Agent place access) = access_due access
demand_due demand = 0

-- by what a packet was found to be, at a target with a ROM of so many bytes
abbrev pub found_due : ℕ → Finding Purpose → ℕ
found_due size (of_request p) = demand_due (demand_of size p)
found_due size found = 0

-- the agent of a place has a present ORB that has not ended
abbrev pub works : NodeState → ℕ → Bool
works node place = is_at_work (desk_at node place).agent.phase

-- an ORB of a place ended, or its list was cut
abbrev pub is_end : ℕ → Side → Bool
is_end place (sides.Ended at orb status) = at == place
is_end place side = false

abbrev pub is_cut_of : ℕ → Side → Bool
is_cut_of place (sides.Cut at cause) = at == place
is_cut_of place side = false

abbrev pub has_ended : ℕ → Scene → Bool
has_ended place s = list_any (is_end place) s.outbox.sides

abbrev pub was_cut : ℕ → Scene → Bool
was_cut place s = list_any (is_cut_of place) s.outbox.sides

-- The turn of an ORB of a place came in a call: its agent is at work, or an ORB of it ended, and it was not at work before.
abbrev pub has_begun : NodeState → Scene → ℕ → Bool
has_begun before s place = not (works before place) && (works s.node place || has_ended place s)

-- its share: its fetch, its page tables, its chunks, its status block and the read ahead behind it
abbrev pub begun_share : (tables chunks : ℕ → ℕ) → NodeState → Scene → ℕ → ℕ
begun_share tables chunks before s place = if has_begun before s place then tables place + chunks place + 3 else 0

abbrev pub newly : (tables chunks : ℕ → ℕ) → NodeState → Scene → ℕ
newly tables chunks before s = sum_below 8 (begun_share tables chunks before s)

-- ---- a delivery
-- what a main transaction of an agent brings has at most so many
abbrev pub BringsIn : (tables chunks : ℕ → ℕ) → Finding Purpose → NodeState → Type 0
BringsIn tables chunks found node = (p : Packet) (label : LabelParts) (place : ℕ) (login : Login) → found ≡ of_response p label (Some (purposes.Agent place)) →
    served_login node place ≡ Some login → which_in (desk_at node place) (header_in p).source label ≡ Some Main → Brings (tables place) (chunks place) (desk_at node place).agent (answer_in p)

-- what is delivered to a target that has handed out nothing
abbrev pub bare : NodeState → List Disk → Whole
bare node disks = whole (scene node empty_outbox) disks

abbrev pub delivered : Option Told → List Disk → ℕ → List ℕ → NodeState → Scene
delivered told disks generation bytes node = scene_of (received told generation bytes (bare node disks)).1

pub record IsDelivered (tables chunks : ℕ → ℕ) (told : Option Told) (disks : List Disk) (generation : ℕ) (bytes : List ℕ) (node : NodeState) (before now : List ℕ) : Type 0 where
  pub desks : length node.desks ≡ 8
  pub agents : (place : ℕ) → place < 8 → machines.IsSound (desk_at node place).agent
  pub tells : let found = judging_step node.layer generation bytes in TellsIn told found.0 (with_layer found.1 (bare node disks)) before now
  pub brings : BringsIn tables chunks (judging_step node.layer generation bytes).0 node

-- A call sends no more requests than were left, those that it leaves counted, and those that are due and that the turns of ORBs bring. An agent of which an ORB ended is not at work
-- behind it; and one that was at work is so still, but where its ORB ended or its list was cut.
pub record CountsRequests (tables chunks : ℕ → ℕ) (due : ℕ) (node : NodeState) (s : Scene) : Type 0 where
  pub sent : requests s.outbox.packets + node_left tables chunks s.node ≤ node_left tables chunks node + due + newly tables chunks node s
  pub ended : (place : ℕ) → place < 8 → has_ended place s ≡ true → works s.node place ≡ false
  pub stopped : (place : ℕ) → place < 8 → works node place ≡ true → works s.node place ≡ false → (has_ended place s || was_cut place s) ≡ true

-- of each delivery to a target
abbrev pub DeliveriesAreCounted : Type 0
DeliveriesAreCounted = (tables chunks : ℕ → ℕ) (told : Option Told) (disks : List Disk) (generation : ℕ) (bytes : List ℕ) (node : NodeState) (before now : List ℕ) →
    IsDelivered tables chunks told disks generation bytes node before now →
    CountsRequests tables chunks (found_due (length node.rom) (judging_step node.layer generation bytes).0) node (delivered told disks generation bytes node)
