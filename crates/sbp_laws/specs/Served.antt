-- The answer to a request that a node got: its rcode, and the bytes that a read gives (IEEE 1394-1995, response codes; NCITS 325-1998, agent
-- registers, ORBs and page tables in an initiator's memory).
use Rattle.std.specs.Prelude.{ℕ, zero, suc, ◌+◌, ◌-◌, ◌*◌, ◌/◌, ◌%◌, ◌^◌, ◌==◌, ◌&&◌, not, nat_le, nat_lt, is_some, Bool, true, false, if◌then◌else◌, List, [], ◌∷◌, ◌++◌, length, take, drop, replicate, position, slice_index_or, Option, Some, None}
use Rattle.byteorder.specs.Endian.{big_bytes}
use Rattle.sbp_base.specs.Quadlets.{quad}
use Rattle.orb_layout.specs.declared.command.CommandOrb.{CommandOrb}
use Rattle.orb_layout.specs.declared.management.ManagementOrb.{ManagementOrb}
use Rattle.orb_layout.specs.declared.pointer.OrbPointer.{OrbPointer}
use Rattle.orb_layout.specs.declared.pointer.OrbPointer.TheVariants.{Null, At}
use Rattle.orb_layout.specs.CommandOrbs.{command_bytes}
use Rattle.orb_layout.specs.ManagementOrbs.{management_bytes}
use Rattle.orb_layout.specs.Pointers.{quad_bytes, pointer_at, pointer_high, pointer_low}
use Rattle.page_table.specs.Buffer.{buffer_addresses}
use Rattle.rbc_disk.specs.Disk.{Disk}
use Rattle.bus_memory.specs.declared.window.Window.{Window}
use Rattle.bus_memory.specs.declared.window.Window.TheVariants as windows
use Rattle.bus_memory.specs.Windows.{start, window_at, is_fifo}
use Rattle.orb_list.specs.Requests.{Asked}
use Rattle.orb_list.specs.Layout.{orb_of, table_bytes}
use Rattle.command_agent.specs.Machine as agent
use Rattle.command_agent.specs.declared.step.AgentState.{AgentState}
use Rattle.command_agent.specs.declared.step.AgentState.TheVariants as states
use Rattle.sbp_journal.specs.Run.{Moment, said}
use Rattle.sbp_journal.specs.Addresses.{Access, Register, agent_state, orb_pointer, Start, management_agent, register, start_at, is_start, start_serves, begins_in_rom, lies_in_rom, rom_base}
use Rattle.sbp_journal.specs.Rows.{TargetFacts, target_rcode, WindowFacts, window_rcode}
use Rattle.sbp_journal.specs.Wire.{terms}
use Rattle.sbp_journal.specs.declared.event.Cmd.{Cmd}
use Rattle.sbp_journal.specs.declared.event.Event.{Event}
use Rattle.sbp_journal.specs.declared.event.Event.TheVariants as events
use Rattle.sbp_journal.specs.declared.event.Action.{Action}
use Rattle.sbp_journal.specs.declared.event.Action.TheVariants as actions
use Rattle.sbp_journal.specs.declared.operation.Operation.{Operation}
use Rattle.sbp_journal.specs.declared.note.Note.TheVariants as notes
use Rattle.sbp_laws.specs.Turns.{event_of}
use Rattle.sbp_laws.specs.Packets.{access_at, id_of, receiver_in}
use Rattle.sbp_laws.specs.Lists.{Orb, SlotState, vacant, used, resting, slots, lowest_vacant, slot_at, prepared_in, command_at, linked, lowered, is_dummy, present_list}
use Rattle.sbp_laws.specs.Hosts.{Host, host_at, operation_of, is_management}
use Rattle.sbp_laws.specs.Targets.{Target, Agent, agent_at, login_fifo, is_serial}
use Rattle.sbp_laws.specs.CarriedBytes.{laid_out}
use Rattle.sbp_laws.specs.JudgementLaw.{rom_of, rom_size}

-- an rcode, and the bytes that a read gives
pub record Reply : Type 0 where
  pub rcode : ℕ
  pub given : List ℕ

abbrev pub rom_bytes : (node units : ℕ) → List ℕ
rom_bytes node units = quad_bytes (rom_of node units)

-- ---- at the target
abbrev pub state_number : AgentState → ℕ
state_number states.Reset = 0
state_number states.Active = 1
state_number states.Suspended = 2
state_number states.Dead = 3

abbrev pub pointer_of : Option ℕ → OrbPointer
pointer_of None = Null
pointer_of (Some address) = At address

abbrev pub pointer_bytes : OrbPointer → List ℕ
pointer_bytes pointer = quad_bytes (pointer_high pointer ∷ pointer_low pointer ∷ [])

-- a write of ORB_POINTER: conflict_error (4) to an agent that is ACTIVE or DEAD, and else data_error (5) where it is null
abbrev pub taken_rcode : OrbPointer → ℕ
taken_rcode Null = 5
taken_rcode (At address) = 0

abbrev pub pointed_rcode : AgentState → OrbPointer → ℕ
pointed_rcode states.Active pointer = 4
pointed_rcode states.Dead pointer = 4
pointed_rcode state pointer = taken_rcode pointer

abbrev pub register_rcode : Register → Agent → Access → ℕ
register_rcode orb_pointer a access = if access.is_write then pointed_rcode (agent.state_in a.machine.phase) (pointer_at access.payload 0) else 0
register_rcode _ a access = 0

-- conflict_error while a management operation is under way
abbrev pub state_rcode : Start → Target → Access → ℕ
state_rcode management_agent target access = if is_some target.manager.operation then 4 else 0
state_rcode (register place name) target access = register_rcode name (agent_at target place) access
state_rcode start target access = 0

abbrev pub register_gives : Register → Agent → List ℕ
register_gives agent_state a = big_bytes 4 (state_number (agent.state_in a.machine.phase))
register_gives orb_pointer a = pointer_bytes (pointer_of a.pointer)
register_gives _ a = []

abbrev pub start_gives : Start → Target → List ℕ
start_gives (register place name) target = register_gives name (agent_at target place)
start_gives start target = []

abbrev pub target_facts : (size : ℕ) → Target → Access → TargetFacts
target_facts size target access = record {
  is_lock = access.is_lock;
  is_empty = access.count == 0;
  writes_rom = access.is_write && begins_in_rom size access;
  reads_rom = not access.is_write && lies_in_rom size access;
  is_served = start_serves (start_at access.offset) access;
  by_state = state_rcode (start_at access.offset) target access;
  is_start = is_start (start_at access.offset);
}

-- the bytes of a range of a node's ROM
abbrev pub rom_gives : (node units : ℕ) → Access → List ℕ
rom_gives node units access = take access.count (drop (access.offset - rom_base) (rom_bytes node units))

abbrev pub target_gives : (in_rom : Bool) → (units : ℕ) → Target → Access → List ℕ
target_gives true units target access = rom_gives 0 units access
target_gives false units target access = start_gives (start_at access.offset) target

abbrev pub target_reply : List Disk → Target → Access → Reply
target_reply disks target access = record {
  rcode = target_rcode (target_facts (rom_size 0 (length disks)) target access);
  given = target_gives (lies_in_rom (rom_size 0 (length disks)) access) (length disks) target access;
}

-- ---- at an initiator: what its memory holds
abbrev pub is_used : SlotState → Bool
is_used vacant = false
is_used (used one) = true
is_used resting = true

abbrev pub slot_is_open : List Moment → (i slot : ℕ) → Bool
slot_is_open past i slot = is_used (slice_index_or (slots past i) slot vacant)

-- what a command asks for in memory, as it was prepared: the node ID of that time stands in its descriptor
abbrev pub asked_for : Cmd → (node : ℕ) → Asked
asked_for cmd node = record {
  cdb = cmd.cdb;
  to_initiator = cmd.to_initiator;
  length = cmd.length;
  payload = cmd.payload;
  segments = cmd.segments;
  max_payload = cmd.max_payload;
  node = node;
  login = 0;
}

abbrev pub id_as_prepared : List Moment → ℕ → ℕ → ℕ → ℕ
id_as_prepared [] i n k = 0
id_as_prepared (said (notes.Append j m l cdb buffer) ∷ past) i n k =
    if (j == i) && (m == n) && (l == k) then id_of (terms past) (suc i) else id_as_prepared past i n k
id_as_prepared (_ ∷ past) i n k = id_as_prepared past i n k

-- the next pointer of an ORB: null until the ORB behind it is linked, though its low quadlet stands there once that was written
abbrev pub next_high : (is_linked : Bool) → ℕ → ℕ
next_high true address = address / 2 ^ 32
next_high false address = 2 ^ 31

abbrev pub next_low : (is_lowered : Bool) → ℕ → ℕ
next_low true address = address % 2 ^ 32
next_low false address = 0

abbrev pub next_bytes : List Moment → (i n k : ℕ) → List ℕ
next_bytes past i n k =
    let address = start (windows.Orb (slot_at past i n (suc k))) in
    quad_bytes (next_high (nat_lt (suc k) (linked past i n)) address ∷ next_low (nat_le (suc k) (lowered past i n)) address ∷ [])

abbrev pub with_format : Bool → CommandOrb → CommandOrb
with_format true one = record one { format = 3 }
with_format false one = one

abbrev pub orb_held : List Moment → (i n k : ℕ) → Option Cmd → List ℕ
orb_held past i n k None = replicate 32 0
orb_held past i n k (Some cmd) =
    next_bytes past i n k ++ drop 8 (command_bytes (with_format (is_dummy past i n k) (orb_of (asked_for cmd (id_as_prepared past i n k)) (slot_at past i n k))))

abbrev pub orb_in_slot : List Moment → (i slot : ℕ) → Option Orb → List ℕ
orb_in_slot past i slot None = replicate 32 0
orb_in_slot past i slot (Some one) = orb_held past i one.list one.number (command_at past i one.list one.number)

abbrev pub table_held : (slot : ℕ) → Option Cmd → List ℕ
table_held slot None = []
table_held slot (Some cmd) = table_bytes slot 0 cmd.segments

abbrev pub table_in_slot : List Moment → (i slot : ℕ) → Option Orb → List ℕ
table_in_slot past i slot None = []
table_in_slot past i slot (Some one) = table_held slot (command_at past i one.list one.number)

-- the page table window of a slot: the table of the ORB that was prepared there last, and behind its end what stood there before, zeros at first
abbrev pub in_front : (table before : List ℕ) → List ℕ
in_front table before = table ++ drop (length table) before

abbrev pub tables_before : List Moment → (i slot : ℕ) → List ℕ
tables_before [] i slot = replicate 512 0
tables_before (said (notes.Append j n k cdb buffer) ∷ past) i slot =
    if (j == i) && (lowest_vacant (slots past i) == slot) then in_front (table_in_slot past i slot (prepared_in past i slot)) (tables_before past i slot) else tables_before past i slot
tables_before (_ ∷ past) i slot = tables_before past i slot

abbrev pub tables_in_slot : List Moment → (i slot : ℕ) → List ℕ
tables_in_slot past i slot = in_front (table_in_slot past i slot (prepared_in past i slot)) (tables_before past i slot)

-- a byte of these, where there is one
abbrev pub data_at : Option ℕ → List ℕ → Option ℕ
data_at None payload = None
data_at (Some at) payload = if nat_lt at (length payload) then Some (slice_index_or payload at 0) else None

abbrev pub byte_of : (slot address : ℕ) → Option Cmd → Option ℕ
byte_of slot address None = None
byte_of slot address (Some cmd) = data_at (position (λ other. other == address) (buffer_addresses (laid_out slot cmd cmd.segments))) cmd.payload

abbrev pub byte_written : (address : ℕ) → Option Access → Option ℕ
byte_written address None = None
byte_written address (Some access) =
    if access.is_write && nat_le access.offset address then data_at (Some (address - access.offset)) access.payload else None

abbrev pub or_byte : Option ℕ → ℕ → ℕ
or_byte (Some byte) other = byte
or_byte None other = other

abbrev pub bytes_from : (count : ℕ) → (ℕ → ℕ) → ℕ → List ℕ
bytes_from zero byte address = []
bytes_from (suc count) byte address = byte address ∷ bytes_from count byte (address + 1)

-- ---- management ORBs
-- the ORB of an operation, with the fields of its line (NCITS 325-1998, management ORB)
abbrev pub plain_orb : (function subject place : ℕ) → ManagementOrb
plain_orb function subject place = record {
  first = 0;
  second = 0;
  notify = true;
  format = 0;
  exclusive = false;
  reconnect = 0;
  function = function;
  subject = subject;
  password_length = 0;
  response_length = 0;
  fifo = 0x12002000 + 0x20 * place;
}

abbrev pub responding : (place allowed : ℕ) → ManagementOrb → ManagementOrb
responding place allowed one = record one { second = start (windows.Response place); response_length = allowed }

-- the 8 bytes of a password as two quadlets
abbrev pub number_of : List ℕ → ℕ
number_of bytes = quad bytes 0 * 2 ^ 32 + quad bytes 4

-- the address of an ORB of the present list
abbrev pub orb_address : List Moment → (i k : ℕ) → Option ℕ → ℕ
orb_address past i k None = 0
orb_address past i k (Some n) = start (windows.Orb (slot_at past i n k))

abbrev pub management_orb_of : Action → List Moment → (i : ℕ) → Host → (place : ℕ) → ManagementOrb
management_orb_of (actions.Login unit reconnect exclusive password) past i host place =
    record (responding place 16 (plain_orb 0x0 unit place)) { first = number_of password; exclusive = exclusive; reconnect = reconnect; fifo = login_fifo host.logins }
management_orb_of (actions.Query unit) past i host place = responding place 100 (plain_orb 0x1 unit place)
management_orb_of actions.Reconnect past i host place = plain_orb 0x3 host.login.login place
management_orb_of actions.Logout past i host place = plain_orb 0x7 host.login.login place
management_orb_of (actions.Abort k) past i host place = record (plain_orb 0xb host.login.login place) { first = orb_address past i k (present_list past i) }
management_orb_of actions.AbortSet past i host place = plain_orb 0xc host.login.login place
management_orb_of actions.UnitReset past i host place = plain_orb 0xe host.login.login place
management_orb_of actions.TargetReset past i host place = plain_orb 0xf host.login.login place
management_orb_of action past i host place = plain_orb 0x0 0 place

-- the management ORB in a place: that of the latest operation that used it
abbrev pub is_own : (i j : ℕ) → Option Operation → Bool
is_own i j (Some operation) = (i == j) && is_management operation
is_own i j None = false

abbrev pub place_written : Option Event → List Moment → (i m : ℕ) → Option ManagementOrb → Option ManagementOrb
place_written (Some (events.Act j action)) past i m before =
    if is_own i j (operation_of action) && ((host_at past i).writes % 2 == m) then Some (management_orb_of action past i (host_at past i) m) else before
place_written event past i m before = before

abbrev pub place_held : List Moment → (i m : ℕ) → Option ManagementOrb
place_held [] i m = None
place_held (said (notes.Sent serial generation (suc j) to bytes) ∷ past) i m =
    if j == i then place_written (event_of past) past i m (place_held past i m) else place_held past i m
place_held (_ ∷ past) i m = place_held past i m

abbrev pub place_bytes : Option ManagementOrb → List ℕ
place_bytes None = replicate 32 0
place_bytes (Some one) = management_bytes one

-- ---- a window of an initiator: its size, whether it is open, whether the target writes it, and its bytes
abbrev pub size_of : (rom : ℕ) → Window → ℕ
size_of rom windows.Rom = rom
size_of rom (windows.Orb slot) = 0x20
size_of rom (windows.Table slot) = 0x200
size_of rom (windows.Buffer slot) = 0x8000
size_of rom (windows.Management place) = 0x20
size_of rom (windows.Response place) = 0x100

abbrev pub is_open : List Moment → ℕ → Window → Bool
is_open past i (windows.Orb slot) = slot_is_open past i slot
is_open past i (windows.Table slot) = slot_is_open past i slot
is_open past i (windows.Buffer slot) = slot_is_open past i slot
is_open past i window = true

abbrev pub goes_in : Option Cmd → Bool
goes_in None = false
goes_in (Some cmd) = cmd.to_initiator && nat_lt 0 cmd.length

abbrev pub direction_of : List Moment → (i : ℕ) → Option Orb → Bool
direction_of past i None = false
direction_of past i (Some one) = goes_in (command_at past i one.list one.number)

abbrev pub takes_writes : List Moment → ℕ → Window → Bool
takes_writes past i (windows.Buffer slot) = direction_of past i (prepared_in past i slot)
takes_writes past i (windows.Response place) = true
takes_writes past i window = false

abbrev pub lies_inside : List Moment → (i rom : ℕ) → Access → Option Window → Bool
lies_inside past i rom access None = false
lies_inside past i rom access (Some window) = is_open past i window && nat_le (access.offset - start window + access.count) (size_of rom window)

abbrev pub has_direction : List Moment → ℕ → Access → Option Window → Bool
has_direction past i access None = false
has_direction past i access (Some window) = is_same access.is_write (takes_writes past i window)
  where
    is_same : Bool → Bool → Bool
    is_same true other = other
    is_same false other = not other

abbrev pub window_facts : List Moment → (i rom : ℕ) → Access → WindowFacts
window_facts past i rom access = record {
  is_lock = access.is_lock;
  is_empty = access.count == 0;
  is_fifo = is_fifo access.offset;
  is_inside = lies_inside past i rom access (window_at access.offset);
  has_direction = has_direction past i access (window_at access.offset);
}

-- a request that an initiator got is complete
abbrev pub is_complete_at : List Moment → (i : ℕ) → Option Access → Bool
is_complete_at past i None = false
is_complete_at past i (Some access) = window_rcode (window_facts past i (rom_size (suc i) 0) access) == 0

-- a byte of a slot's buffer: of the data of the latest command prepared there that has one at this address, or of a write that the initiator got
-- since and that was complete
abbrev pub byte_in : List Moment → (i slot address : ℕ) → ℕ
byte_in [] i slot address = 0
byte_in (said (notes.Append j n k cdb buffer) ∷ past) i slot address =
    or_byte (if (j == i) && (slot_at (said (notes.Append j n k cdb buffer) ∷ past) i n k == slot) then byte_of slot address (command_at (said (notes.Append j n k cdb buffer) ∷ past) i n k) else None) (byte_in past i slot address)
byte_in (said (notes.Got serial) ∷ past) i slot address =
    let access = access_at (terms past) serial in
    or_byte (if is_serial (receiver_in ((terms past).sent serial)) (suc i) && is_complete_at past i access then byte_written address access else None) (byte_in past i slot address)
byte_in (_ ∷ past) i slot address = byte_in past i slot address

abbrev pub cut : Access → ℕ → List ℕ → List ℕ
cut access base held = take access.count (drop (access.offset - base) held)

abbrev pub window_gives : List Moment → ℕ → Access → Option Window → List ℕ
window_gives past i access None = []
window_gives past i access (Some windows.Rom) = rom_gives (suc i) 0 access
window_gives past i access (Some (windows.Orb slot)) = cut access (start (windows.Orb slot)) (orb_in_slot past i slot (prepared_in past i slot))
window_gives past i access (Some (windows.Table slot)) = cut access (start (windows.Table slot)) (tables_in_slot past i slot)
window_gives past i access (Some (windows.Buffer slot)) = bytes_from access.count (byte_in past i slot) access.offset
window_gives past i access (Some (windows.Management place)) = cut access (start (windows.Management place)) (place_bytes (place_held past i place))
window_gives past i access (Some (windows.Response place)) = []

abbrev pub is_fifo_write : Access → Bool
is_fifo_write access = access.is_write && access.is_block && is_fifo access.offset

-- a block write to a FIFO that was got is complete
abbrev pub host_reply : List Moment → ℕ → Access → Reply
host_reply past i access = record {
  rcode = if is_fifo_write access then 0 else window_rcode (window_facts past i (rom_size (suc i) 0) access);
  given = window_gives past i access (window_at access.offset);
}

-- ---- the answer of a node to a request that it got
abbrev pub reply_of : List Disk → List Moment → Target → (node : ℕ) → Access → Reply
reply_of disks past target zero access = target_reply disks target access
reply_of disks past target (suc i) access = host_reply past i access
