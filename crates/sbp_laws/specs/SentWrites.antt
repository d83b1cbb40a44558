-- The sent law, of statuses and responses (NCITS 325-1998, status block, and login and query responses). Behind each end of an ORB the target
-- sends one write to its initiator: the status of that end, with the address of the ORB's slot, to the FIFO of the login, with src 0 exactly
-- where the next pointer last got of the ORB is not null. Behind each decision it sends one write: the response, cut to the length that the
-- management ORB allows, to the address that this names, or, where it has no byte, the status block to its FIFO; and that block behind the
-- answer to the response. A write that finds no label is not sent; where that is the status of an end, the turn has a `dead`.
use Rattle.std.specs.Prelude.{◌≡◌, ℕ, zero, suc, ◌==◌, ◌&&◌, Bool, true, false, if◌then◌else◌, List, [], ◌∷◌, ◌++◌, take, Option, Some, None}
use Rattle.orb_layout.specs.declared.management.ManagementOrb.{ManagementOrb}
use Rattle.orb_layout.specs.declared.pointer.OrbPointer.{OrbPointer}
use Rattle.orb_layout.specs.declared.pointer.OrbPointer.TheVariants.{Null, At}
use Rattle.orb_layout.specs.declared.status.StatusKind.{StatusKind}
use Rattle.orb_layout.specs.declared.status.StatusKind.TheVariants as kinds
use Rattle.orb_layout.specs.Pointers.{offset_at}
use Rattle.orb_layout.specs.Replies.{Done}
use Rattle.orb_layout.specs.StatusBlocks.{status_bytes}
use Rattle.rbc_disk.specs.Disk.{Disk}
use Rattle.bus_memory.specs.declared.window.Window.TheVariants as windows
use Rattle.bus_memory.specs.Windows.{start}
use Rattle.label_table.specs.Bodies.{block_write}
use Rattle.mgmt_agent.specs.declared.operation.Operation.{Operation}
use Rattle.mgmt_agent.specs.declared.operation.Phase.{Phase}
use Rattle.mgmt_agent.specs.declared.operation.Phase.TheVariants as phases
use Rattle.sbp_journal.specs.Run.{Moment}
use Rattle.sbp_journal.specs.Addresses.{Access}
use Rattle.sbp_journal.specs.Wire.{terms}
use Rattle.sbp_journal.specs.declared.note.Note.{Note}
use Rattle.sbp_journal.specs.declared.note.Note.TheVariants as notes
use Rattle.sbp_laws.specs.Turns.{Turn}
use Rattle.sbp_laws.specs.Deliveries.{once_told}
use Rattle.sbp_laws.specs.Packets.{access_at, access_in_bytes, finds_label}
use Rattle.sbp_laws.specs.Lists.{slot_at}
use Rattle.sbp_laws.specs.Targets.{Target, Decided, agent_at, login_at, target_at}
use Rattle.sbp_laws.specs.Agents.{Event, replies, writes, nothing, agent_event, fifo_in, target_before, wire_after}
use Rattle.sbp_laws.specs.Deaths.{deaths_in}
use Rattle.sbp_laws.specs.Management.{Call, answers, began_with, call_of, operator_of}
use Rattle.sbp_laws.specs.Progress.{progress}
use Rattle.sbp_laws.specs.Decided.{Decision, decision_in, response_due}

-- ---- writes of the target
-- a write to a node: its address and its bytes
pub record NodeWrite : Type 0 where
  pub to : ℕ
  pub offset : ℕ
  pub payload : List ℕ

abbrev pub node_write : (to : ℕ) → Option Access → List NodeWrite
node_write to None = []
node_write to (Some access) = if access.is_write then record { to = to; offset = access.offset; payload = access.payload } ∷ [] else []

-- the writes of the target to a node among these notes
abbrev pub writes_to : (node : ℕ) → List Note → List NodeWrite
writes_to node [] = []
writes_to node (notes.Sent serial generation zero to bytes ∷ rest) =
    (if to == node then node_write to (access_in_bytes bytes) else []) ++ writes_to node rest
writes_to node (note ∷ rest) = writes_to node rest

-- a write is sent where it finds a label
abbrev pub served : Turn → NodeWrite → List NodeWrite
served t write = if finds_label (wire_after t) 0 write.to (block_write write.offset write.payload) then write ∷ [] else []

-- ---- the status of an end
-- an ORB that ends: by its list and its number there, where it has a name
pub record End : Type 0 where
  pub initiator : ℕ
  pub list : Option ℕ
  pub number : Option ℕ
  pub kind : StatusKind

abbrev pub end_in : List Note → Option End
end_in [] = None
end_in (notes.Ended i list number kind ∷ rest) = Some (record { initiator = i; list = list; number = number; kind = kind })
end_in (note ∷ rest) = end_in rest

-- the place whose agent a turn is for
abbrev pub place_in : Event → ℕ
place_in (replies reply) = reply.place
place_in (writes name place access) = place
place_in nothing = 8

-- the address of its slot; of an ORB without a name, the address that it was read from
abbrev pub address_in : List Moment → (read_from i : ℕ) → (list number : Option ℕ) → ℕ
address_in past read_from i (Some n) (Some k) = start (windows.Orb (slot_at past i n k))
address_in past read_from i list number = read_from

abbrev pub src_by : OrbPointer → ℕ
src_by Null = 1
src_by (At address) = 0

-- what stands behind a turn
abbrev pub behind_turn : Turn → List Moment
behind_turn t = once_told (t.start ∷ t.past) t.rest

abbrev pub status_of : List Disk → Turn → (place : ℕ) → End → NodeWrite
status_of disks t place end = record {
  to = suc end.initiator;
  offset = fifo_in (login_at (target_before disks t) place);
  payload = status_bytes (record {
    src = src_by (progress disks (t.start ∷ t.past) place).next;
    kind = end.kind;
    orb = address_in t.past (agent_at (target_at disks (behind_turn t)) place).machine.present end.initiator end.list end.number;
  });
}

abbrev pub end_writes : Turn → Option End → List NodeWrite
end_writes t None = []
end_writes t (Some end) = writes_to (suc end.initiator) t.rest

abbrev pub statuses_due : List Disk → Turn → Option End → List NodeWrite
statuses_due disks t None = []
statuses_due disks t (Some end) = served t (status_of disks t (place_in (agent_event disks t)) end)

-- Behind an end its initiator is sent its status, where the write finds a label, and no other write.
abbrev pub StatusesAreSent : List Disk → Turn → Type 0
StatusesAreSent disks t = end_writes t (end_in t.rest) ≡ statuses_due disks t (end_in t.rest)

-- an end whose status finds no label, and no `dead` beside it
abbrev pub is_unsent : List NodeWrite → Bool
is_unsent [] = true
is_unsent (write ∷ more) = false

abbrev pub lacks_death : List Disk → Turn → Option End → Bool
lacks_death disks t None = false
lacks_death disks t (Some end) = is_unsent (statuses_due disks t (Some end)) && (deaths_in t == 0)

abbrev pub ends_silently : List Disk → Turn → Bool
ends_silently disks t = lacks_death disks t (end_in t.rest)

-- ---- the response and the status block of a decision
-- the address of the management ORB: the one that the write of MANAGEMENT_AGENT named
abbrev pub offset_in : Option Access → ℕ
offset_in None = 0
offset_in (Some access) = offset_at access.payload 0

abbrev pub managed_orb : List Disk → Turn → ℕ
managed_orb disks t = offset_in (access_at (terms t.past) (began_with disks t.past))

abbrev pub managed_block : (to : ℕ) → ManagementOrb → (status address : ℕ) → NodeWrite
managed_block to orb status address = record {
  to = to;
  offset = orb.fifo;
  payload = status_bytes (record { src = 0; kind = kinds.Management status; orb = address });
}

-- the response is cut to the length that the ORB allows; one of no bytes is not written, and the status block is
abbrev pub decision_write : (to : ℕ) → ManagementOrb → (response : List ℕ) → (status address : ℕ) → NodeWrite
decision_write to orb [] status address = managed_block to orb status address
decision_write to orb (byte ∷ response) status address = record { to = to; offset = orb.second; payload = byte ∷ response }

abbrev pub decision_served : List Disk → Turn → Decision → Option Decided → List NodeWrite
decision_served disks t decision None = []
decision_served disks t decision (Some decided) =
    let response = take decided.orb.response_length (response_due (target_at disks (behind_turn t)) decided.orb decision) in
    served t (decision_write (suc decision.initiator) decided.orb response decision.status (managed_orb disks t))

-- the answer to a response comes: the status block has 00
abbrev pub is_response : Option Operation → Bool
is_response None = false
is_response (Some operation) = is_response_phase operation.phase
  where
    is_response_phase : Phase → Bool
    is_response_phase (phases.Response fifo) = true
    is_response_phase phase = false

abbrev pub block_served : List Disk → Turn → Option Decided → List NodeWrite
block_served disks t None = []
block_served disks t (Some decided) =
    served t (managed_block (suc (operator_of (target_before disks t) t)) decided.orb 0 (managed_orb disks t))

abbrev pub is_response_done : Target → Call → Bool
is_response_done target (answers Done) = is_response target.manager.operation
is_response_done target call = false

abbrev pub decision_writes : List Disk → Turn → Option Decision → List NodeWrite
decision_writes disks t (Some decision) = writes_to (suc decision.initiator) t.rest
decision_writes disks t None =
    if is_response_done (target_before disks t) (call_of (target_before disks t) t)
    then writes_to (suc (operator_of (target_before disks t) t)) t.rest else []

abbrev pub decisions_served : List Disk → Turn → Option Decision → List NodeWrite
decisions_served disks t (Some decision) = decision_served disks t decision (target_at disks (t.start ∷ t.past)).decided
decisions_served disks t None =
    if is_response_done (target_before disks t) (call_of (target_before disks t) t)
    then block_served disks t (target_before disks t).decided else []

abbrev pub DecisionsAreSent : List Disk → Turn → Type 0
DecisionsAreSent disks t = decision_writes disks t (decision_in t.rest) ≡ decisions_served disks t (decision_in t.rest)
