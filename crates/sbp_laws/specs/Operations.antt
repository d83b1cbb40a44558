-- What a turn brings of an initiator's operations, of its present list and of its session (NCITS 325-1998, task management and login).
use Rattle.std.specs.Prelude.{ℕ, zero, suc, ◌+◌, ◌*◌, ◌==◌, ◌&&◌, ◌||◌, not, nat_le, nat_lt, Bool, true, false, if◌then◌else◌, List, [], ◌∷◌, ◌++◌, length, map, Option, Some, None, Result, Ok, Err}
use Rattle.sbp_base.specs.Quadlets.{quad}
use Rattle.orb_layout.specs.Replies.{Answer, Payload, Done, Refused, Expired}
use Rattle.orb_layout.specs.declared.fault.OrbFault.{OrbFault}
use Rattle.orb_layout.specs.declared.status.StatusBlock.{StatusBlock}
use Rattle.orb_layout.specs.declared.status.StatusKind.{StatusKind}
use Rattle.orb_layout.specs.declared.status.StatusKind.TheVariants as kinds
use Rattle.orb_layout.specs.StatusBlocks.{read_block}
use Rattle.orb_layout.specs.QueryResponses.{query_count}
use Rattle.bus_memory.specs.declared.window.Window.TheVariants as windows
use Rattle.bus_memory.specs.Windows.{start, is_fifo}
use Rattle.config_rom.specs.declared.fault.RomFault.{RomFault}
use Rattle.config_rom.specs.declared.fault.RomFault.TheVariants as faults
use Rattle.config_rom.specs.declared.unit.SbpUnit.{SbpUnit}
use Rattle.config_rom.specs.Reading.{Tree, reading}
use Rattle.config_rom.specs.Unit.{sbp_unit_of}
use Rattle.label_table.specs.Bodies.{quadlet_read}
use Rattle.sbp_journal.specs.Run.{Moment, said}
use Rattle.sbp_journal.specs.Addresses.{Access, rom_base}
use Rattle.sbp_journal.specs.Wire.{Terms, terms}
use Rattle.sbp_journal.specs.declared.operation.Operation.{Operation}
use Rattle.sbp_journal.specs.declared.operation.Operation.TheVariants as operations
use Rattle.sbp_journal.specs.declared.operation.OpWord.{OpWord}
use Rattle.sbp_journal.specs.declared.operation.OpWord.TheVariants as words
use Rattle.sbp_journal.specs.declared.note.Note.{Note}
use Rattle.sbp_journal.specs.declared.note.Note.TheVariants as notes
use Rattle.sbp_laws.specs.Turns.{Turn}
use Rattle.sbp_laws.specs.Packets.{packet_at, access_at, answered_at, answer_in, sender_in, receiver_in}
use Rattle.sbp_laws.specs.Lists.{present_list}
use Rattle.sbp_laws.specs.Hosts.{Host, host_at, Underway, StateRead, is_stuck, is_management, is_latest, is_rom, response_of, is_present}
use Rattle.sbp_laws.specs.Agents.{Request, requests_to}
use Rattle.sbp_laws.specs.OnceLaw.{is_write_in}

-- what an operation's end is, if it ends, and whether it drops the present list
pub record End : Type 0 where
  pub operation : Operation
  pub word : OpWord
  pub drops : Bool

abbrev pub ends_as : Operation → OpWord → Bool → Option End
ends_as operation word drops = Some (record { operation = operation; word = word; drops = drops })

-- ---- a ROM that was read
abbrev pub fault_number : RomFault → ℕ
fault_number (faults.Short need) = 1
fault_number faults.Name = 2
fault_number (faults.Entry at) = 3
fault_number (faults.Outside at) = 4
fault_number faults.NoMemory = 0

abbrev pub unit_word : Option SbpUnit → OpWord
unit_word None = words.NoUnit
unit_word (Some unit) = words.Done

abbrev pub rom_word : Result Tree RomFault → OpWord
rom_word (Ok tree) = unit_word (sbp_unit_of tree.blocks tree.entries)
rom_word (Err fault) = words.Bad (fault_number fault)

abbrev pub rom_ends : List ℕ → Option End
rom_ends quads = ends_as operations.Rom (rom_word (reading quads)) false

-- a ROM is read until address_error (7) or 256 quadlets
abbrev pub rom_answered : Answer → List ℕ → Option End
rom_answered (Payload bytes) quads = if nat_le 255 (length quads) then rom_ends (quads ++ quad bytes 0 ∷ []) else None
rom_answered (Refused rcode) quads = if rcode == 7 then rom_ends quads else ends_as operations.Rom words.Error false
rom_answered answer quads = ends_as operations.Rom words.Error false

-- ---- the answer to an operation's request: a write of MANAGEMENT_AGENT ends it at conflict_error (4), or with another rcode than 0
abbrev pub write_answered : Operation → Answer → Option End
write_answered operation Done = None
write_answered operation (Refused rcode) = ends_as operation (if rcode == 4 then words.Conflict else words.Error) false
write_answered operation answer = ends_as operation words.Error false

abbrev pub register_answered : Operation → (drops : Bool) → Answer → Option End
register_answered operation drops Done = ends_as operation words.Done drops
register_answered operation drops answer = ends_as operation words.Error false

abbrev pub request_answered : Operation → Answer → Host → Option End
request_answered operations.Rom answer host = rom_answered answer host.quads
request_answered operations.AgentReset answer host = register_answered operations.AgentReset true answer
request_answered operations.Enable answer host = register_answered operations.Enable false answer
request_answered operation answer host = write_answered operation answer

-- ---- the answer to a read of AGENT_STATE: RESET (0) drops the list of which it says something, where that is the present one
abbrev pub state_word : Answer → OpWord
state_word (Payload bytes) = words.State (quad bytes 0)
state_word answer = words.Error

abbrev pub says_reset : Answer → Bool
says_reset (Payload bytes) = quad bytes 0 == 0
says_reset answer = false

abbrev pub read_ends : List StateRead → (serial : ℕ) → Answer → (present : Option ℕ) → Option End
read_ends [] serial answer present = None
read_ends (read ∷ reads) serial answer present =
    if read.serial == serial then ends_as operations.State (state_word answer) (says_reset answer && is_present read.list present)
    else read_ends reads serial answer present

abbrev pub or_end : Option End → Option End → Option End
or_end (Some end) other = Some end
or_end None other = other

abbrev pub operation_answered : Option Underway → (serial : ℕ) → Answer → Host → Option End
operation_answered None serial answer host = None
operation_answered (Some underway) serial answer host =
    if underway.latest == serial then request_answered underway.operation answer host else None

abbrev pub end_by_answer : Host → (serial : ℕ) → Answer → (present : Option ℕ) → Option End
end_by_answer host serial answer present =
    or_end (operation_answered host.operation serial answer host) (read_ends host.reads serial answer present)

-- ---- the status of a management ORB
-- an address is that of a management ORB
abbrev pub names_management : ℕ → Bool
names_management address = (address == start (windows.Management 0)) || (address == start (windows.Management 1))

-- the functions whose end drops the list
abbrev pub ends_list : Operation → Bool
ends_list operations.Logout = true
ends_list operations.AbortSet = true
ends_list operations.UnitReset = true
ends_list operations.TargetReset = true
ends_list _ = false

abbrev pub done_word : Operation → List ℕ → OpWord
done_word operations.Query response = words.Count (query_count response)
done_word operation response = words.Done

abbrev pub status_ends : Operation → (status : ℕ) → List ℕ → Option End
status_ends operation status response =
    if status == 0 then ends_as operation (done_word operation response) (ends_list operation)
    else ends_as operation (words.Refused status) false

abbrev pub told_status : StatusKind → Option ℕ
told_status (kinds.Management status) = Some status
told_status _ = None

abbrev pub ends_by_status : Option ℕ → Operation → List ℕ → Option End
ends_by_status None operation response = None
ends_by_status (Some status) operation response = status_ends operation status response

-- a status block names the management ORB of the operation under way
abbrev pub is_of : Underway → StatusBlock → Bool
is_of underway block = is_management underway.operation && (block.orb == start (windows.Management underway.place))

abbrev pub ends_by_block : Option Underway → Result StatusBlock OrbFault → List ℕ → Option End
ends_by_block None read response = None
ends_by_block (Some underway) (Err fault) response = None
ends_by_block (Some underway) (Ok block) response = if is_of underway block then ends_by_status (told_status block.kind) underway.operation response else None

abbrev pub end_by_write : Host → Option Access → Option End
end_by_write host None = None
end_by_write host (Some access) =
    if access.is_write && access.is_block && is_fifo access.offset then ends_by_block host.operation (read_block true access.payload) (response_of host) else None

-- ---- a session becomes stuck where a write of its own fails; conflict_error to a write of MANAGEMENT_AGENT is no failure
abbrev pub management_offset : Option ℕ → ℕ
management_offset None = 0
management_offset (Some distance) = 0xfffff0000000 + 4 * distance

abbrev pub is_management_write : Host → Option Access → Bool
is_management_write host None = false
is_management_write host (Some access) = access.offset == management_offset host.management

abbrev pub is_failure : Answer → (to_manager : Bool) → Bool
is_failure Done to_manager = false
is_failure (Refused rcode) to_manager = not (to_manager && (rcode == 4))
is_failure answer to_manager = true

abbrev pub gets_stuck : Host → Option Access → Answer → Bool
gets_stuck host access answer = is_write_in access && is_failure answer (is_management_write host access) && not (is_stuck host.session)

-- ---- the notes
abbrev pub drop_note : (i : ℕ) → Bool → Option ℕ → List Note
drop_note i true (Some n) = notes.Drop i n ∷ []
drop_note i drops present = []

abbrev pub end_notes : (i : ℕ) → Option End → (present : Option ℕ) → List Note
end_notes i None present = []
end_notes i (Some end) present = drop_note i end.drops present ++ notes.Op i end.operation end.word ∷ []

abbrev pub stuck_note : (i : ℕ) → Bool → List Note
stuck_note i true = notes.Stuck i ∷ []
stuck_note i false = []

-- a reset ends the operation and the reads of AGENT_STATE, in the order of their lines, and then drops the list
abbrev pub reset_op : (i : ℕ) → Operation → Note
reset_op i operation = notes.Op i operation words.Reset

abbrev pub reset_reads : (i : ℕ) → List StateRead → List Note
reset_reads i reads = map (λ read. reset_op i operations.State) reads

abbrev pub reset_ops : (i : ℕ) → Option Underway → List StateRead → List Note
reset_ops i None reads = reset_reads i reads
reset_ops i (Some underway) [] = reset_op i underway.operation ∷ []
reset_ops i (Some underway) (read ∷ reads) =
    if nat_lt underway.first read.serial then reset_op i underway.operation ∷ reset_reads i (read ∷ reads)
    else reset_op i operations.State ∷ reset_ops i (Some underway) reads

abbrev pub reply_notes : (i : ℕ) → Host → (present : Option ℕ) → Option Access → (serial : ℕ) → Answer → List Note
reply_notes i host present access serial answer =
    end_notes i (end_by_answer host serial answer present) present ++ stuck_note i (gets_stuck host access answer)

abbrev pub got_notes : (i : ℕ) → Host → (present : Option ℕ) → Terms → Option ℕ → (serial : ℕ) → List Note
got_notes i host present wire (Some own) serial = reply_notes i host present (access_at wire own) own (answer_in (packet_at wire serial))
got_notes i host present wire None serial = end_notes i (end_by_write host (access_at wire serial)) present

abbrev pub at_initiator : Option ℕ → (ℕ → List Note) → List Note
at_initiator None told = []
at_initiator (Some zero) told = []
at_initiator (Some (suc i)) told = told i

abbrev pub seen_notes : (i : ℕ) → (is_new : Bool) → Host → (present : Option ℕ) → List Note
seen_notes i true host present = reset_ops i host.operation host.reads ++ drop_note i true present
seen_notes i false host present = []

abbrev pub host_notes : Moment → List Moment → List Note
host_notes (said (notes.Got serial)) past =
    at_initiator (receiver_in ((terms past).sent serial)) (λ i. got_notes i (host_at past i) (present_list past i) (terms past) (answered_at (terms past) serial) serial)
host_notes (said (notes.TimedOut serial)) past =
    at_initiator (sender_in ((terms past).sent serial)) (λ i. reply_notes i (host_at past i) (present_list past i) (access_at (terms past) serial) serial Expired)
host_notes (said (notes.Seen node generation)) past =
    at_initiator (Some node) (λ i. seen_notes i (not (generation == (terms past).generation node)) (host_at past i) (present_list past i))
host_notes moment past = []

abbrev pub operation_notes : Turn → List Note
operation_notes t = host_notes t.start t.past

-- ---- the next read of a ROM, in the delivery of the answer to the one before
abbrev pub next_read : Host → (serial : ℕ) → Answer → List Request
next_read host serial (Payload bytes) =
    if is_rom host.operation && is_latest host.operation serial && nat_lt (length host.quads) 255 then requests_to 0 (Some (quadlet_read (rom_base + 4 * (length host.quads + 1)))) else []
next_read host serial answer = []
