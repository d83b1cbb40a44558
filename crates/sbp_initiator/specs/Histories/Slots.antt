-- What the calls of an initiator do to its slots and their memory (NCITS 325-1998, ORBs in the memory of the initiator): calls of the
-- slots, the latest first. An action prepares, links or pins an ORB, makes it a dummy, or writes a management ORB into the next place,
-- quadlet by quadlet; a refused one does nothing. A delivery takes the status that it brings or tries the write that it asks for, and
-- drops the present list where it says so; behind a delivery or a time-out the pin ends where the operation under way did. A later
-- generation drops the list and frees every slot.
use Rattle.std.specs.Prelude.{◌≡◌, ℕ, zero, suc, ◌+◌, ◌*◌, nat_lt, is_some, Bool, true, false, if◌then◌else◌, List, [], ◌∷◌, ◌++◌, Option, Some, None}
use Rattle.byteorder.specs.Endian.{big_bytes}
use Rattle.sbp_base.specs.Quadlets.{quad}
use Rattle.async_packet.specs.Packet.{Packet, write_quadlet, write_block}
use Rattle.label_table.specs.Layer.{Finding, of_request, judging_step}
use Rattle.bus_memory.specs.declared.window.Window.TheVariants as windows
use Rattle.bus_memory.specs.Windows.{start}
use Rattle.orb_layout.specs.declared.management.ManagementOrb.{ManagementOrb}
use Rattle.orb_layout.specs.declared.status.StatusBlock.{StatusBlock}
use Rattle.orb_layout.specs.declared.status.StatusKind.{StatusKind}
use Rattle.orb_layout.specs.declared.status.StatusKind.TheVariants as kinds
use Rattle.orb_layout.specs.ManagementOrbs.{management_bytes}
use Rattle.orb_list.specs.Kept.{AreProper}
use Rattle.orb_list.specs.Runs as slot_runs
use Rattle.orb_list.specs.Table.{find_in}
use Rattle.orb_list.specs.Tickets.{TicketParts}
use Rattle.sbp_journal.specs.declared.event.Action.{Action}
use Rattle.sbp_journal.specs.declared.event.Action.TheVariants as actions
use Rattle.sbp_journal.specs.declared.operation.Operation.{Operation}
use Rattle.initiator_base.specs.declared.fifos.Fifo.{Fifo}
use Rattle.initiator_base.specs.declared.fifos.Fifo.TheVariants as fifos
use Rattle.sbp_initiator.specs.declared.purpose.Purpose.{Purpose}
use Rattle.sbp_initiator.specs.declared.purpose.Running.{Running}
use Rattle.sbp_initiator.specs.declared.state.InitiatorState.{InitiatorState}
use Rattle.sbp_initiator.specs.Acting.{act_step, login_id, orb_by}
use Rattle.sbp_initiator.specs.Effects.{Turn}
use Rattle.sbp_initiator.specs.Initiators.{own_rom}
use Rattle.orb_list.specs.Lists.{ListState}
use Rattle.sbp_initiator.specs.Commands.{asked_by}
use Rattle.sbp_initiator.specs.Receiving.{fifo_of, is_foreign}
use Rattle.sbp_initiator.specs.Refusals.{operation_of}
use Rattle.sbp_initiator.specs.States.{place_of}
use Rattle.sbp_initiator.specs.Histories.Ends.{is_managed}
use Rattle.sbp_initiator.specs.Histories.Laws.{Call, acts, receives, lets_expire, sees, AreCalls, after, done}
use Rattle.sbp_initiator.specs.Histories.Taking.{Brought, nothing, unsolicited, status, brought, finding_drops}

-- ---- an action

-- the ORB that an action that is done puts into the next place, where it is an operation with one
abbrev pub orb_in : Option Operation → Action → InitiatorState → Option ManagementOrb
orb_in None action s = None
orb_in (Some operation) action s = if is_managed operation then Some (orb_by action s) else None

-- the first quadlets of 32 bytes are written into a place of management
unfoldable pub quad_calls : ℕ → List ℕ → ℕ → List slot_runs.Call
quad_calls place bytes zero = []
quad_calls place bytes (suc n) =
    slot_runs.SetQuad (start (windows.Management place) + 4 * n) (quad bytes (4 * n)) ∷ quad_calls place bytes n

abbrev pub orb_calls : Option ManagementOrb → ℕ → List slot_runs.Call
orb_calls None place = []
orb_calls (Some orb) place = quad_calls place (management_bytes orb) 8

abbrev pub dummy_calls : Option TicketParts → List slot_runs.Call
dummy_calls None = []
dummy_calls (Some t) = slot_runs.MakeDummy t ∷ []

-- an ORB that waits is pinned, where none is
abbrev pub pin_calls : Bool → Option TicketParts → List slot_runs.Call
pin_calls true t = []
pin_calls false None = []
pin_calls false (Some t) = slot_runs.Pin t ∷ []

-- what an action that is done does
abbrev pub action_calls : Action → InitiatorState → List slot_runs.Call
action_calls (actions.Put cmd) s = slot_runs.Prepare (asked_by cmd s.layer.node (login_id s)) ∷ []
action_calls (actions.Append cmd) s =
    slot_runs.LinkHigh ∷ slot_runs.LinkLow ∷ slot_runs.Prepare (asked_by cmd s.layer.node (login_id s)) ∷ []
action_calls actions.Low s = slot_runs.LinkLow ∷ []
action_calls actions.Link s = slot_runs.LinkHigh ∷ []
action_calls (actions.Dummy orb) s = dummy_calls (find_in s.lists.slots.slots orb)
action_calls (actions.Abort orb) s =
    pin_calls (is_some s.lists.slots.pinned) (find_in s.lists.slots.slots orb) ++ orb_calls (Some (orb_by (actions.Abort orb) s)) (place_of s.counts.managed)
action_calls action s = orb_calls (orb_in (operation_of action) action s) (place_of s.counts.managed)

abbrev pub calls_if : Option ℕ → Action → InitiatorState → List slot_runs.Call
calls_if (Some number) action s = []
calls_if None action s = action_calls action s

-- ---- a delivery, and a time-out

-- the status of an ORB that is none of management
abbrev pub status_calls : StatusKind → StatusBlock → List slot_runs.Call
status_calls (kinds.Management code) block = []
status_calls kind block = slot_runs.TakeStatus block ∷ []

abbrev pub block_calls : Brought → List slot_runs.Call
block_calls nothing = []
block_calls unsolicited = []
block_calls (status block) = status_calls block.kind block

-- A block that is written to no FIFO is tried, and a quadlet that is written to no closed one.
abbrev pub block_writes : Option Fifo → ℕ → List ℕ → List slot_runs.Call
block_writes None offset bytes = slot_runs.TryWrite offset bytes ∷ []
block_writes (Some fifo) offset bytes = []

abbrev pub quadlet_writes : Option Fifo → ℕ → List ℕ → List slot_runs.Call
quadlet_writes (Some fifos.Closed) offset bytes = []
quadlet_writes _ offset bytes = slot_runs.TryWrite offset bytes ∷ []

-- the write that a request asks for
abbrev pub written_by : Packet → InitiatorState → List slot_runs.Call
written_by (write_block header offset payload) s = block_writes (fifo_of s offset) offset payload
written_by (write_quadlet header offset value) s = quadlet_writes (fifo_of s offset) offset (big_bytes 4 value)
written_by _ s = []

-- one of another node than the target is ignored
abbrev pub write_calls : Packet → InitiatorState → List slot_runs.Call
write_calls p s = if is_foreign p s then [] else written_by p s

abbrev pub request_calls : Finding Purpose → InitiatorState → List slot_runs.Call
request_calls (of_request p) s = block_calls (brought p s) ++ write_calls p s
request_calls _ s = []

abbrev pub drop_calls : Bool → List slot_runs.Call
drop_calls true = slot_runs.DropList ∷ []
drop_calls false = []

-- the operation that was under way is so no more
abbrev pub has_ended : Option Running → Option Running → Bool
has_ended None new = false
has_ended (Some running) None = true
has_ended (Some running) (Some other) = false

abbrev pub unpin_calls : Bool → List slot_runs.Call
unpin_calls true = slot_runs.Unpin ∷ []
unpin_calls false = []

abbrev pub heard_calls : Finding Purpose → InitiatorState → List slot_runs.Call
heard_calls finding s = drop_calls (finding_drops finding s) ++ request_calls finding s

-- ---- every call

abbrev pub slot_calls : Call → Turn → List slot_runs.Call
slot_calls (acts action) turn = calls_if (act_step action turn.0 turn.1).0 action turn.1
slot_calls (receives generation bytes) turn =
    unpin_calls (has_ended turn.1.operation (done (receives generation bytes) turn).1.operation) ++ heard_calls (judging_step turn.1.layer generation bytes).0 turn.1
slot_calls (lets_expire label) turn =
    unpin_calls (has_ended turn.1.operation (done (lets_expire label) turn).1.operation)
slot_calls (sees generation id target) turn =
    if nat_lt turn.1.layer.generation generation then slot_runs.FreeAll ∷ slot_runs.DropList ∷ [] else []

-- what later calls do behind earlier ones, and what a list of calls does
abbrev pub slot_calls_since : ℕ → Bool → (later earlier : List Call) → List slot_runs.Call
slot_calls_since number ready [] earlier = []
slot_calls_since number ready (call ∷ later) earlier =
    slot_calls call (after number ready (later ++ earlier)) ++ slot_calls_since number ready later earlier

abbrev pub slot_calls_after : ℕ → Bool → List Call → List slot_runs.Call
slot_calls_after number ready [] = []
slot_calls_after number ready (call ∷ calls) = slot_calls call (after number ready calls) ++ slot_calls_after number ready calls

-- ---- the law

-- The slots and their memory are what these calls make of new ones, in a memory with this ROM.
pub record AreSlotsOf (quads : List ℕ) (calls : List slot_runs.Call) (lists : ListState) : Type 0 where
  pub proper : AreProper calls
  pub table : (slot_runs.run calls quads).table ≡ lists.slots
  pub memory : (slot_runs.run calls quads).memory ≡ lists.memory

-- Over every list of calls. So what the target reads of an ORB, its page table and its buffer, which slot is free and whose status is
-- taken are as the laws of the slots say of these calls.
abbrev pub SlotLaw : Type 0
SlotLaw =
    (number : ℕ) (ready : Bool) (calls : List Call) → AreCalls calls → AreSlotsOf (own_rom number) (slot_calls_after number ready calls) (after number ready calls).1.lists
