-- Which statuses an initiator takes (NCITS 325-1998, status blocks). A status block that comes to an open FIFO and names an ORB that
-- waits is taken: the delivery is told as got, and tells one `taken`, of this ORB, with the status of the block. A block that names
-- none, nor the management ORB of the operation under way, is ignored and tells nothing. No other call tells `taken`.
use Rattle.std.specs.Prelude.{ℕ, ◌==◌, ◌&&◌, ◌||◌, not, nat_lt, Bool, false, if◌then◌else◌, List, [], ◌∷◌, Option, Some, None, Result, Ok, Err}
use Rattle.async_packet.specs.Packet.{Packet, header_in}
use Rattle.label_table.specs.declared.reply.Stale.{Stale}
use Rattle.label_table.specs.Layer.{Finding, of_response, of_request, expiring_step, judging_step}
use Rattle.bus_memory.specs.Windows.{slot_of}
use Rattle.orb_layout.specs.declared.fault.OrbFault.{OrbFault}
use Rattle.orb_layout.specs.declared.status.StatusBlock.{StatusBlock}
use Rattle.orb_layout.specs.declared.status.StatusKind.{StatusKind}
use Rattle.orb_layout.specs.declared.status.StatusKind.TheVariants as kinds
use Rattle.orb_list.specs.declared.slot.Slot.{Slot}
use Rattle.orb_list.specs.Tickets.{TicketParts}
use Rattle.orb_list.specs.Table.{slot_in, waiting}
use Rattle.sbp_journal.specs.declared.note.Note.{Note}
use Rattle.sbp_journal.specs.declared.note.Note.TheVariants as notes
use Rattle.sbp_journal.specs.declared.operation.OpWord.{OpWord}
use Rattle.sbp_journal.specs.Addresses.{Access, access_of}
use Rattle.sbp_journal.specs.Rows.{RequestFacts}
use Rattle.sbp_initiator.specs.declared.purpose.Ending.{Ending}
use Rattle.sbp_initiator.specs.declared.purpose.Ending.TheVariants as endings
use Rattle.sbp_initiator.specs.declared.purpose.Purpose.{Purpose}
use Rattle.sbp_initiator.specs.declared.purpose.Running.{Running}
use Rattle.sbp_initiator.specs.declared.state.InitiatorState.{InitiatorState}
use Rattle.sbp_initiator.specs.Refusals.{ends_list}
use Rattle.orb_list.specs.Lists.{ListState, take_lists}
use Rattle.sbp_initiator.specs.States.{ending_of, status_in}
use Rattle.sbp_initiator.specs.Receiving.{answer_of, present_for}
use Rattle.sbp_initiator.specs.Histories.Laws.{Call, acts, receives, lets_expire, sees}
use Rattle.sbp_initiator.specs.Histories.Judging.{facts_at, fifo_for}
use Rattle.sbp_initiator.specs.Histories.Drops.{ends_the_list}
use Rattle.sbp_initiator.specs.Histories.Ends.{fails_write, read_ends}

-- ---- what a request brings

-- nothing, an unsolicited status block, or another status block
pub data Brought : Type 0 where
  nothing : Brought
  unsolicited : Brought
  status : StatusBlock → Brought

abbrev pub read_as : Result StatusBlock OrbFault → Brought
read_as (Ok block) = status block
read_as (Err fault) = nothing

-- a block that is written to an open FIFO, where none of the rows before decides
abbrev pub brought_by : RequestFacts → Result StatusBlock OrbFault → Brought
brought_by facts read =
    if facts.to_initiator && not facts.reads_rom && not facts.of_target then nothing
    else if facts.of_other_login || facts.to_closed_fifo then nothing
    else if facts.is_status && facts.is_unsolicited then unsolicited
    else if facts.is_status then read_as read else nothing

abbrev pub brought_for : Option Access → ℕ → InitiatorState → Brought
brought_for None source s = nothing
brought_for (Some access) source s = brought_by (facts_at (fifo_for access s) access source s) (status_in access.payload)

abbrev pub brought : Packet → InitiatorState → Brought
brought p s = brought_for (access_of p) (header_in p).source s

-- ---- what is taken

-- the ORB that waits in a slot
abbrev pub waiting_at : List Slot → Option ℕ → Option TicketParts
waiting_at slots None = None
waiting_at slots (Some number) = waiting (slot_in slots number)

abbrev pub taken_of : Option TicketParts → StatusKind → ListState → ℕ → Option Note
taken_of None kind lists number = None
taken_of (Some t) kind lists number = Some (notes.Taken number t.list t.number kind (answer_of kind lists t.slot))

-- the status of the ORB that waits in the slot whose address the block names, with the answer that it brings
abbrev pub taken_by : StatusKind → StatusBlock → InitiatorState → Option Note
taken_by (kinds.Management code) block s = None
taken_by kind block s =
    taken_of (waiting_at s.lists.slots.slots (slot_of block.orb)) kind (take_lists s.lists block).1 s.number

-- what a block tells
abbrev pub block_note : Brought → InitiatorState → Option Note
block_note nothing s = None
block_note unsolicited s = Some (notes.Told s.number)
block_note (status block) s = taken_by block.kind block s

-- ---- what is dropped

abbrev pub good_drops : Option Running → ℕ → Bool
good_drops None code = false
good_drops (Some running) code = code == 0 && ends_list (Some running.operation)

abbrev pub kind_drops : StatusKind → ℕ → InitiatorState → Bool
kind_drops (kinds.Management code) orb s = good_drops (present_for orb s.operation) code
kind_drops _ orb s = false

-- status 00 of the operation under way, which ends its lists
abbrev pub block_drops : Brought → InitiatorState → Bool
block_drops nothing s = false
block_drops unsolicited s = false
block_drops (status block) s = kind_drops block.kind block.orb s

-- ---- by what a delivery is found to be

abbrev pub purpose_drops : Option Purpose → Packet → InitiatorState → Bool
purpose_drops None p s = false
purpose_drops (Some purpose) p s = ends_the_list purpose (ending_of p) s.lists.slots.present

abbrev pub finding_drops : Finding Purpose → InitiatorState → Bool
finding_drops (of_response p label purpose) s = purpose_drops purpose p s
finding_drops (of_request p) s = block_drops (brought p s) s
finding_drops _ s = false

abbrev pub finding_note : Finding Purpose → InitiatorState → Option Note
finding_note (of_request p) s = block_note (brought p s) s
finding_note _ s = None

-- the present list is dropped by a call
abbrev pub call_drops : Call → InitiatorState → Bool
call_drops (acts action) s = false
call_drops (receives generation bytes) s = finding_drops (judging_step s.layer generation bytes).0 s
call_drops (lets_expire label) s = false
call_drops (sees generation id target) s = nat_lt s.layer.generation generation

-- the end of a read of AGENT_STATE that a call tells
abbrev pub purpose_read : Option Purpose → Ending → Option OpWord
purpose_read None ending = None
purpose_read (Some purpose) ending = read_ends purpose ending

abbrev pub finding_read : Finding Purpose → Option OpWord
finding_read (of_response p label purpose) = purpose_read purpose (ending_of p)
finding_read _ = None

abbrev pub expired_read : Result (Option Purpose) Stale → Option OpWord
expired_read (Ok purpose) = purpose_read purpose endings.Expired
expired_read (Err stale) = None

abbrev pub call_read : Call → InitiatorState → Option OpWord
call_read (receives generation bytes) s = finding_read (judging_step s.layer generation bytes).0
call_read (lets_expire label) s = expired_read (expiring_step s.layer s.target label).0
call_read _ s = None

-- a write request of the initiator's own that fails in a call
abbrev pub purpose_fails : Option Purpose → Ending → Bool
purpose_fails None ending = false
purpose_fails (Some purpose) ending = fails_write purpose ending

abbrev pub finding_fails : Finding Purpose → Bool
finding_fails (of_response p label purpose) = purpose_fails purpose (ending_of p)
finding_fails _ = false

abbrev pub expired_fails : Result (Option Purpose) Stale → Bool
expired_fails (Ok purpose) = purpose_fails purpose endings.Expired
expired_fails (Err stale) = false

abbrev pub call_fails : Call → InitiatorState → Bool
call_fails (receives generation bytes) s = finding_fails (judging_step s.layer generation bytes).0
call_fails (lets_expire label) s = expired_fails (expiring_step s.layer s.target label).0
call_fails _ s = false

-- what a call tells of a block that it brings
abbrev pub call_note : Call → InitiatorState → Option Note
call_note (receives generation bytes) s = finding_note (judging_step s.layer generation bytes).0 s
call_note _ s = None

abbrev pub block_notes : Option Note → List Note
block_notes None = []
block_notes (Some note) = note ∷ []
