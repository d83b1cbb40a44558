-- The state of an initiator, and what is read off it.
use Rattle.std.specs.Prelude.{ℕ, ◌-◌, ◌%◌, ◌==◌, ◌&&◌, ◌||◌, not, nat_le, nat_lt, Bool, true, false, unwrap_or, if◌then◌else◌, List, Option, Some, None, Result}
use Rattle.byteorder.specs.Endian.{big_bytes}
use Rattle.async_packet.specs.Packet.{Packet, write_response, read_quadlet_response, read_block_response, lock_response}
use Rattle.label_table.specs.Bodies.{Body, quadlet_write, block_write, quadlet_read}
use Rattle.bus_memory.specs.declared.window.Window.TheVariants as windows
use Rattle.bus_memory.specs.Windows.{start}
use Rattle.orb_layout.specs.declared.status.StatusBlock.{StatusBlock}
use Rattle.orb_layout.specs.declared.fault.OrbFault.{OrbFault}
use Rattle.orb_layout.specs.StatusBlocks.{read_block as read_status_block}
use Rattle.orb_list.specs.declared.list.PresentList.{PresentList}
use Rattle.orb_list.specs.Table.{is_done}
use Rattle.sbp_session.specs.declared.seat.Seat.{Seat}
use Rattle.sbp_session.specs.declared.seat.Seat.TheVariants as seats
use Rattle.sbp_session.specs.Seats.{is_out_seat}
use Rattle.initiator_base.specs.Places.{login_fifo, names_place, place_fifo}
use Rattle.sbp_journal.specs.declared.operation.Operation.{Operation}
use Rattle.sbp_initiator.specs.Refusals.{SessionState, is_out, is_entering, is_live, is_held, is_returning, is_leaving, is_stuck}
use Rattle.sbp_initiator.specs.declared.purpose.Ending.{Ending}
use Rattle.sbp_initiator.specs.declared.purpose.Ending.TheVariants as endings
use Rattle.sbp_initiator.specs.declared.purpose.Wanted.{Wanted}
use Rattle.sbp_initiator.specs.declared.purpose.Wanted.TheVariants as wants
use Rattle.sbp_initiator.specs.declared.purpose.Running.{Running}
use Rattle.sbp_initiator.specs.declared.purpose.Pointing.{Pointing}
use Rattle.sbp_initiator.specs.declared.purpose.Pointing.TheVariants as pointings
use Rattle.sbp_initiator.specs.declared.purpose.ListMarks.{ListMarks}

-- ---- the session

abbrev pub session_of : Seat → SessionState
session_of (seats.Out out) = is_out
session_of (seats.Entering entering) = is_entering
session_of (seats.Live live) = is_live
session_of (seats.Held response) = is_held
session_of (seats.Returning response) = is_returning
session_of (seats.Leaving response) = is_leaving
session_of (seats.Stuck origin) = is_stuck

-- ---- addresses

abbrev pub status_in : List ℕ → Result StatusBlock OrbFault
status_in payload = read_status_block (names_place payload) payload

-- ---- requests

-- the address that a request writes; 0 where it writes none
abbrev pub address_in : Wanted → ℕ
address_in (wants.Point offset orb) = orb
address_in _ = 0

abbrev pub wanted_body : Wanted → Body
wanted_body (wants.Read offset) = quadlet_read offset
wanted_body (wants.Write offset value) = quadlet_write offset value
wanted_body (wants.Point offset orb) = block_write offset (big_bytes 8 orb)

abbrev pub ending_by : ℕ → ℕ → Ending
ending_by rcode value = if rcode == 0 then endings.Complete value else endings.Refused rcode

-- how a response ends its transaction
abbrev pub ending_of : Packet → Ending
ending_of (read_quadlet_response header rcode value) = ending_by rcode value
ending_of (read_block_response header rcode payload) = ending_by rcode 0
ending_of (lock_response header rcode extended payload) = ending_by rcode 0
ending_of (write_response header rcode) = ending_by rcode 0
ending_of _ = endings.Expired

-- ---- operations and lists

-- the operation under way is the one that an action began
abbrev pub is_own : ℕ → Option Running → Bool
is_own act None = false
is_own act (Some running) = running.act == act

-- the place of the n-th write to MANAGEMENT_AGENT
abbrev pub place_of : ℕ → ℕ
place_of managed = managed % 2

-- the place of an operation's management ORB; 0 where it has none
abbrev pub place_in : Running → ℕ
place_in running = place_of (unwrap_or running.managed 0)

abbrev pub is_orb_of : Option ℕ → ℕ → Bool
is_orb_of None orb = false
is_orb_of (Some managed) orb = orb == start (windows.Management (place_of managed))

-- the operation under way is the one of this management ORB
abbrev pub is_present_orb : ℕ → Option Running → Bool
is_present_orb orb None = false
is_present_orb orb (Some running) = is_orb_of running.managed orb

abbrev pub operation_in : Option Running → Option Operation
operation_in None = None
operation_in (Some running) = Some running.operation

abbrev pub no_marks : ListMarks
no_marks = record { first = 0; pointing = pointings.Unwritten; is_dead = false }

abbrev pub is_unwritten : Pointing → Bool
is_unwritten pointings.Unwritten = true
is_unwritten _ = false

abbrev pub is_answered : Pointing → Bool
is_answered pointings.Answered = true
is_answered _ = false

-- the last ORB of a list that is linked; the first one counts as linked
abbrev pub last_linked : PresentList → ℕ
last_linked list = if is_done list.link then list.tail.number else list.tail.number - 1

-- this list is the present one
abbrev pub is_list : Option PresentList → ℕ → Bool
is_list None number = false
is_list (Some list) number = list.tail.list == number

abbrev pub counts_for : Option PresentList → Option ℕ → Bool
counts_for present None = false
counts_for present (Some number) = is_list present number
