-- What a request asks of the target, by its address (NCITS 325-1998, management agent and command
-- block agent registers; IEEE 1212, configuration ROM).
use Rattle.std.specs.Prelude.{◌≡◌, ℕ, ◌+◌, ◌-◌, ◌*◌, ◌/◌, ◌%◌, ◌^◌, ◌<◌, ◌≤◌, ◌==◌, ◌&&◌, ◌||◌, nat_le, nat_lt, is_some, Bool, true, false, if◌then◌else◌, List, length, Option, Some, None}
use Rattle.orb_layout.specs.Pointers.{offset_at, pointer_at}
use Rattle.async_packet.specs.Packet.{Packet, write_quadlet, write_block, read_quadlet, read_block, lock}
use Rattle.target_base.specs.declared.address.Register.{Register}
use Rattle.target_base.specs.declared.address.Register.TheVariants as registers
use Rattle.target_base.specs.declared.address.AgentRegister.{AgentRegister}
use Rattle.target_base.specs.declared.address.Access.{Access}
use Rattle.target_base.specs.declared.address.Access.TheVariants as accesses
use Rattle.target_base.specs.declared.address.Demand.{Demand}
use Rattle.target_base.specs.declared.address.Demand.TheVariants as demands

-- rcodes (IEEE 1394-1995)
abbrev pub complete : ℕ
complete = 0

abbrev pub conflict_error : ℕ
conflict_error = 4

abbrev pub data_error : ℕ
data_error = 5

abbrev pub type_error : ℕ
type_error = 6

abbrev pub address_error : ℕ
address_error = 7

-- where the ROM, MANAGEMENT_AGENT and the registers of the agent of place 0 start
abbrev pub rom_start : ℕ
rom_start = 0xfffff0000400

abbrev pub management_start : ℕ
management_start = 0xfffff0010000

abbrev pub agents_start : ℕ
agents_start = 0xfffff0040000

-- the register that is so far from the base of its agent
abbrev pub register_by : ℕ → Option Register
register_by distance =
    if distance == 0x00 then Some registers.AgentState
    else if distance == 0x04 then Some registers.AgentReset
    else if distance == 0x08 then Some registers.OrbPointer
    else if distance == 0x10 then Some registers.Doorbell
    else if distance == 0x14 then Some registers.UnsolicitedStatusEnable
    else None

abbrev pub agent_register : ℕ → Option Register → Option AgentRegister
agent_register place None = None
agent_register place (Some register) = Some (record { place = place; register = register })

-- the agent register that starts at an address: the agents of eight places have 20h bytes each
unfoldable pub register_at : ℕ → Option AgentRegister
register_at offset =
    if nat_lt offset agents_start || nat_le (agents_start + 8 * 0x20) offset
    then None
    else agent_register ((offset - agents_start) / 0x20) (register_by ((offset - agents_start) % 0x20))

-- what a request asks of a register that serves it
abbrev pub accessed : Register → Packet → Option Access
accessed registers.AgentState (read_quadlet header offset) = Some accesses.State
accessed registers.AgentReset (write_quadlet header offset value) = Some accesses.Reset
accessed registers.OrbPointer (write_block header offset payload) =
    if length payload == 8 then Some (accesses.Point (pointer_at payload 0)) else None
accessed registers.OrbPointer (read_block header offset asked) = if asked == 8 then Some accesses.Pointer else None
accessed registers.Doorbell (write_quadlet header offset value) = Some accesses.Ring
accessed registers.UnsolicitedStatusEnable (write_quadlet header offset value) = Some accesses.Enable
accessed register request = None

-- the operation that a write of MANAGEMENT_AGENT starts: on the ORB whose address is written
abbrev pub managed : Packet → Option Demand
managed (write_block header offset payload) = if length payload == 8 then Some (demands.Manage (offset_at payload 0)) else None
managed request = None

abbrev pub accessed_at : ℕ → Option Access → Option Demand
accessed_at place None = None
accessed_at place (Some access) = Some (demands.Agent place access)

abbrev pub served_by : Option AgentRegister → Packet → Option Demand
served_by None request = None
served_by (Some found) request = accessed_at found.place (accessed found.register request)

-- what a request is served with at a start other than the ROM's
abbrev pub served : ℕ → Packet → Option Demand
served offset request = if offset == management_start then managed request else served_by (register_at offset) request

abbrev pub is_start : ℕ → Bool
is_start offset = offset == rom_start || (offset == management_start || is_some (register_at offset))

-- the address that a request names, and the bytes that it is of
abbrev pub offset_in : Packet → ℕ
offset_in (write_quadlet header offset value) = offset
offset_in (write_block header offset payload) = offset
offset_in (read_quadlet header offset) = offset
offset_in (read_block header offset asked) = offset
offset_in (lock header offset extended payload) = offset
offset_in response = 0

abbrev pub length_in : Packet → ℕ
length_in (write_block header offset payload) = length payload
length_in (read_block header offset asked) = asked
length_in request = 4

abbrev pub is_write : Packet → Bool
is_write (write_quadlet header offset value) = true
is_write (write_block header offset payload) = true
is_write request = false

abbrev pub is_read : Packet → Bool
is_read (read_quadlet header offset) = true
is_read (read_block header offset asked) = true
is_read request = false

abbrev pub is_lock : Packet → Bool
is_lock (lock header offset extended payload) = true
is_lock request = false

-- a write that starts inside the ROM of this size
abbrev pub writes_rom : ℕ → Packet → Bool
writes_rom size p = is_write p && (nat_le rom_start (offset_in p) && nat_lt (offset_in p) (rom_start + size))

-- a read inside the ROM
abbrev pub reads_rom : ℕ → Packet → Bool
reads_rom size p = is_read p && (nat_le rom_start (offset_in p) && nat_le (offset_in p + length_in p) (rom_start + size))

-- What a request that was got is judged by, at the target.
pub record Reached : Type 0 where
  pub is_lock : Bool
  pub is_empty : Bool
  pub writes_rom : Bool
  pub reads_rom : Bool
  pub is_served : Bool
  pub is_start : Bool

-- The rows: it is answered type_error; with the ROM's bytes; as the register's state says; or address_error.
pub data Row : Type 0 where
  by_type : Row
  by_rom : Row
  by_register : Row
  by_address : Row

abbrev pub row_of : Reached → Row
row_of facts =
    if facts.is_lock then by_type
    else if facts.is_empty then by_type
    else if facts.writes_rom then by_type
    else if facts.reads_rom then by_rom
    else if facts.is_served then by_register
    else if facts.is_start then by_type
    else by_address

abbrev pub reached : ℕ → Packet → Reached
reached size p = record {
  is_lock = is_lock p;
  is_empty = length_in p == 0;
  writes_rom = writes_rom size p;
  reads_rom = reads_rom size p;
  is_served = is_some (served (offset_in p) p);
  is_start = is_start (offset_in p);
}

abbrev pub or_nowhere : Option Demand → Demand
or_nowhere (Some found) = found
or_nowhere None = demands.Refused address_error

abbrev pub demand_by : Row → Packet → Demand
demand_by by_type p = demands.Refused type_error
demand_by by_rom p = demands.Rom (offset_in p - rom_start) (length_in p)
demand_by by_register p = or_nowhere (served (offset_in p) p)
demand_by by_address p = demands.Refused address_error

-- What a request that was got asks for, with a ROM of so many bytes.
unfoldable pub demand_of : ℕ → Packet → Demand
demand_of size p = demand_by (row_of (reached size p)) p

-- what is asked of the ROM is inside it
abbrev pub IsWithin : ℕ → Demand → Type 0
IsWithin size (demands.Rom at len) = at + len ≤ size
IsWithin size found = Unit {0}
