-- Why no operation of the management fails, and each ends, in runs in which nobody injected packets (NCITS 325-1998, management agent): what the operation waits for is whole, and what it asks for finds a label.
use Rattle.std.specs.Prelude.{◌≡◌, ◌<◌, ◌++◌, ℕ, false, true, List, [], ◌∷◌, length, Option, Some, None, Ok}
use Rattle.async_packet.specs.Fields.{rcode_of}
use Rattle.async_packet.specs.Labels.{LabelParts}
use Rattle.async_packet.specs.declared.packet.Header.{Header}
use Rattle.async_packet.specs.Packet.{Packet, header_in, write_block}
use Rattle.bus_transactions.specs.Carried.{AreKept}
use Rattle.label_table.specs.Bodies.{Body}
use Rattle.label_table.specs.Layer.{Layer, judging_step, of_request, of_response}
use Rattle.login_table.specs.Table.{Table}
use Rattle.mgmt_agent.specs.Machine.{Machine, reply_step, start_step}
use Rattle.mgmt_agent.specs.declared.decision.ManagerStep.{ManagerStep}
use Rattle.mgmt_agent.specs.declared.operation.Operation.{Operation}
use Rattle.orb_layout.specs.declared.status.StatusBlock.{StatusBlock}
use Rattle.orb_layout.specs.declared.status.StatusKind.TheVariants as kinds
use Rattle.packet_store.specs.declared.sent.Sent.{Sent}
use Rattle.rbc_disk.specs.Disk.{Disk}
use Rattle.rbc_disk.specs.Runs.{Told}
use Rattle.sbp_initiator.specs.Receiving.{fifo_of, receive_step}
use Rattle.sbp_initiator.specs.States.{is_orb_of, status_in}
use Rattle.sbp_initiator.specs.declared.state.InitiatorState.{InitiatorState}
use Rattle.sbp_initiator.specs.declared.purpose.Running.{Running}
use Rattle.sbp_journal.specs.Outgoings.{empty_outbox}
use Rattle.sbp_journal.specs.Run.{Moment, said}
use Rattle.sbp_journal.specs.Transactions.{Sending}
use Rattle.sbp_journal.specs.Wire.{terms}
use Rattle.sbp_journal.specs.declared.cause.Judged.{Judged}
use Rattle.sbp_journal.specs.declared.cause.Judged.TheVariants as judgements
use Rattle.sbp_journal.specs.declared.note.Note.TheVariants as notes
use Rattle.sbp_journal.specs.declared.outbox.Outgoing.{Outgoing}
use Rattle.sbp_journal.specs.declared.side.Side.{Side}
use Rattle.sbp_journal.specs.declared.side.Side.TheVariants as sides
use Rattle.sbp_target.specs.Management.{manager_body}
use Rattle.sbp_target.specs.Nodes.{NodeState, scene}
use Rattle.sbp_target.specs.Receiving.{answer_in, received, seen, ticked}
use Rattle.sbp_target.specs.Replies.{Whole, whole}
use Rattle.sbp_target.specs.Serving.{is_barred}
use Rattle.sbp_target.specs.declared.purpose.Purpose.{Purpose}
use Rattle.sbp_target.specs.declared.purpose.Purpose.TheVariants as purposes
use Rattle.target_base.specs.Addresses.{demand_of}
use Rattle.target_base.specs.declared.address.Demand.TheVariants as demands
use Rattle.sbp_world.specs.Completing.Deaths.{AreFewNow}
use Rattle.sbp_world.specs.Completing.Labels.{AlwaysFrom, LosesNothing}
use Rattle.sbp_world.specs.Completing.LabelsAsked.{MayAsk}
use Rattle.sbp_world.specs.Completing.LabelsFound.{FindsLabels}
use Rattle.sbp_world.specs.Completing.Managed.{GaveUp, ManagedFindsThere, ManagedGivenThere}
use Rattle.sbp_world.specs.Completing.Operations.{WasCompleted}
use Rattle.sbp_world.specs.Completing.OperationsReplies.{TakesOn}
use Rattle.sbp_world.specs.Completing.Sights.{AreFewOfCutLists, since_sight}
use Rattle.sbp_world.specs.Lists.Closes.{Always, WhereTameOrFew}
use Rattle.sbp_world.specs.Lists.Managing.{IsOwnWrite}
use Rattle.sbp_world.specs.Lists.Needs.{IsCalm, IsFor}
use Rattle.sbp_world.specs.Lists.OwnLogins.{IsTame}
use Rattle.sbp_world.specs.Sessions.Entering.{is_open}
use Rattle.sbp_world.specs.Worlds.{WorldState}

-- ---- what a call of the target tells
-- no failure of the operation
abbrev pub IsUnfailing : Side → Type 0
IsUnfailing (sides.ManageFailed source cause) = ⊥
IsUnfailing side = Unit {0}

abbrev pub AreUnfailing : List Side → Type 0
AreUnfailing [] = Unit {0}
AreUnfailing (side ∷ later) = IsUnfailing side × AreUnfailing later

-- The operation of a node, to which requests find labels, makes a step that does not fail, and what it asks for finds a label.
pub record StepsOn (node : NodeState) (layer : Layer Purpose) (source : ℕ) (r : ManagerStep × (Machine × Table)) : Type 0 where
  pub finds : FindsLabels node.layer source
  pub failed : r.0.failed ≡ None
  pub asks : (body : Body) → manager_body r.0.ask r.1.0.outgoing ≡ Some body → (now : Layer Purpose) → GaveUp layer now → MayAsk now source (Some body)

-- So it is at each response to its transaction that a packet may be; and where it is a write of MANAGEMENT_AGENT, requests to its sender find labels.
pub record ManagementGoesOn (generation : ℕ) (bytes : List ℕ) (node : NodeState) : Type 0 where
  pub replies : (p : Packet) (label : LabelParts) → (judging_step node.layer generation bytes).0 ≡ of_response p label (Some purposes.Management) → (op : Operation) → node.manager.operation ≡ Some op → StepsOn node (judging_step node.layer generation bytes).1 op.source (reply_step node.manager node.logins node.keys (answer_in p))
  pub starts : (p : Packet) (orb : ℕ) → (judging_step node.layer generation bytes).0 ≡ of_request p → demand_of (length node.rom) p ≡ demands.Manage orb → FindsLabels node.layer (header_in p).source

-- Then the operation does not fail in the delivery.
abbrev pub DeliveriesManage : Type 0
DeliveriesManage = (run : Option Told) (generation : ℕ) (bytes : List ℕ) (node : NodeState) (disks : List Disk) → ManagementGoesOn generation bytes node → AreUnfailing (received run generation bytes (whole (scene node empty_outbox) disks)).1.outbox.sides

-- What a delivery leaves of the operation under way: it is taken on by a reply; it is started by a write of MANAGEMENT_AGENT, where none is under way; or it stays.
pub data LeavesManager (generation : ℕ) (bytes : List ℕ) (node now : NodeState) : Type 0 where
  replies : (p : Packet) (label : LabelParts) (op : Operation) → (judging_step node.layer generation bytes).0 ≡ of_response p label (Some purposes.Management) → node.manager.operation ≡ Some op → now.manager ≡ (reply_step node.manager node.logins node.keys (answer_in p)).1.0 → LeavesManager generation bytes node now
  starts : (p : Packet) (orb : ℕ) → (judging_step node.layer generation bytes).0 ≡ of_request p → is_barred node p ≡ false → demand_of (length node.rom) p ≡ demands.Manage orb → node.manager.operation ≡ None → now.manager ≡ (start_step node.manager (header_in p).source orb).1 → LeavesManager generation bytes node now
  stays : now.manager ≡ node.manager → LeavesManager generation bytes node now

-- where it goes on so: a write of MANAGEMENT_AGENT that is got starts one exactly where none is under way
pub record HandlesManager (generation : ℕ) (bytes : List ℕ) (node now : NodeState) : Type 0 where
  pub leaves : LeavesManager generation bytes node now
  pub started : (p : Packet) (orb : ℕ) → (judging_step node.layer generation bytes).0 ≡ of_request p → is_barred node p ≡ false → demand_of (length node.rom) p ≡ demands.Manage orb → node.manager.operation ≡ None → now.manager ≡ (start_step node.manager (header_in p).source orb).1

abbrev pub DeliveriesHandle : Type 0
DeliveriesHandle = (run : Option Told) (generation : ℕ) (bytes : List ℕ) (node : NodeState) (disks : List Disk) → ManagementGoesOn generation bytes node → HandlesManager generation bytes node (received run generation bytes (whole (scene node empty_outbox) disks)).1.node

-- Nor does it where a generation is seen, or a second goes by.
pub record OthersManage : Type 0 where
  pub sights : (generation id : ℕ) (node : NodeState) → AreUnfailing (seen generation id (scene node empty_outbox)).1.outbox.sides
  pub ticks : (node : NodeState) → AreUnfailing (ticked (scene node empty_outbox)).outbox.sides

-- ---- a history
-- among these moments no operation failed
abbrev pub NoneManagesFail : List Moment → Type 0
NoneManagesFail [] = Unit {0}
NoneManagesFail (said (notes.ManageFailed i cause) ∷ past) = ⊥
NoneManagesFail (_ ∷ past) = NoneManagesFail past

-- ---- at a place
-- No operation failed since the target first saw the latest reset, where nothing was lost since that reset, and at each moment since that sight few requests of lists that were cut are under way.
abbrev pub NoneFailed : List Disk → List Moment → WorldState → Type 0
NoneFailed start past w = IsTame past → AreKept past → AreFewOfCutLists start past → NoneManagesFail (since_sight 0 past)

abbrev pub NoneFailsLaw : Type 0
NoneFailsLaw = AlwaysFrom ManagedGivenThere → AlwaysFrom ManagedFindsThere → AlwaysFrom NoneFailed

-- and both are so
abbrev pub NoneFailedLaw : Type 0
NoneFailedLaw = AlwaysFrom NoneFailed

-- ---- a write of MANAGEMENT_AGENT
-- It was got, and the target answered it with conflict_error, which is 4.
pub record WasRefused (past : List Moment) (write : ℕ) : Type 0 where
  pub later : List Moment
  pub before : List Moment
  pub answer : ℕ
  pub generation : ℕ
  pub to : ℕ
  pub bytes : List ℕ
  pub is : later ++ said (notes.Sent answer generation 0 to bytes) ∷ said (notes.Got write) ∷ before ≡ past
  pub asking : Sending
  pub asked : (terms before).sent write ≡ Some asking
  pub new : (terms before).news write ≡ 0
  pub code : rcode_of bytes ≡ 4

-- Then it is not answered complete: each later response has that rcode.
abbrev pub RefusedLaw : Type 0
RefusedLaw = Always (WhereTameOrFew (λ past w. (i write : ℕ) → i < length w.initiators → IsCalm past i → IsOwnWrite past i write → WasRefused past write → WasCompleted past write → ⊥))

-- The target hands out the one response that tells so, and leaves the operation.
pub record IsRefusal (node : NodeState) (header : Header) (r : Judged × Whole) : Type 0 where
  pub got : r.0 ≡ judgements.Got
  pub sides : r.1.outbox.sides ≡ []
  pub packet : Outgoing
  pub packets : r.1.outbox.packets ≡ packet ∷ []
  pub to : packet.to ≡ header.source
  pub code : rcode_of packet.bytes ≡ 4
  pub manager : r.1.node.manager ≡ node.manager

-- It gets such a write while an operation is under way.
pub record IsBusyWrite (generation : ℕ) (bytes : List ℕ) (node : NodeState) (header : Header) : Type 0 where
  pub offset : ℕ
  pub payload : List ℕ
  pub found : (judging_step node.layer generation bytes).0 ≡ of_request (write_block header offset payload)
  pub heard : is_barred node (write_block header offset payload) ≡ false
  pub orb : ℕ
  pub asks : demand_of (length node.rom) (write_block header offset payload) ≡ demands.Manage orb
  pub own : Operation
  pub busy : node.manager.operation ≡ Some own

pub record BusyRefuses : Type 0 where
  pub refuses : (run : Option Told) (generation : ℕ) (bytes : List ℕ) (node : NodeState) (disks : List Disk) (header : Header) → IsBusyWrite generation bytes node header → IsRefusal node header (received run generation bytes (whole (scene node empty_outbox) disks))

-- ---- a status block at an initiator
-- It comes from the target to an open FIFO, and names the management ORB of the operation under way.
pub record EndsOperation (s : InitiatorState) (generation : ℕ) (bytes : List ℕ) (running : Running) (status : ℕ) : Type 0 where
  pub header : Header
  pub offset : ℕ
  pub payload : List ℕ
  pub found : (judging_step s.layer generation bytes).0 ≡ of_request (write_block header offset payload)
  pub source : header.source ≡ s.target
  pub opens : is_open (fifo_of s offset) ≡ true
  pub size : length payload ≡ 8
  pub block : StatusBlock
  pub read : status_in payload ≡ Ok block
  pub kind : block.kind ≡ kinds.Management status
  pub under_way : s.operation ≡ Some running
  pub names : is_orb_of running.managed block.orb ≡ true

-- It is got, and the operation ends.
pub record BlocksEnd : Type 0 where
  pub ends : (s : InitiatorState) (generation : ℕ) (bytes : List ℕ) (running : Running) (status : ℕ) → EndsOperation s generation bytes running status → ((receive_step generation bytes empty_outbox s).0 ≡ judgements.Got) × ((receive_step generation bytes empty_outbox s).1.1.operation ≡ None)

-- ---- the operation of the target, at a place
-- In each delivery to the target an operation under way goes on, of the same node and with the same ORB, or is over as the write of its status block was answered.
abbrev pub OperationsGoOn : WorldState → Type 0
OperationsGoOn w =
    (sent : Sent) → IsFor w sent → (run : Option Told) (disks : List Disk) (op : Operation) → w.target.manager.operation ≡ Some op → TakesOn op (received run sent.generation sent.bytes (whole (scene w.target empty_outbox) disks)).1.node.manager.operation

abbrev pub GoOnThere : List Disk → List Moment → WorldState → Type 0
GoOnThere start past w = IsTame past → LosesNothing past → AreFewNow start (length w.initiators) past → OperationsGoOn w

abbrev pub GoOnLaw : Type 0
GoOnLaw = AlwaysFrom ManagedGivenThere → AlwaysFrom ManagedFindsThere → AlwaysFrom GoOnThere

abbrev pub AllGoOnLaw : Type 0
AllGoOnLaw = AlwaysFrom GoOnThere
