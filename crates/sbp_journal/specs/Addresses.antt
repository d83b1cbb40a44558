-- What a request asks of the node that got it, and the addresses at which the target serves requests (NCITS 325-1998, command block
-- agents and management agent; IEEE 1212).
use Rattle.std.specs.Prelude.{ℕ, ◌+◌, ◌-◌, ◌*◌, ◌/◌, ◌%◌, ◌==◌, ◌&&◌, ◌||◌, nat_le, nat_lt, not, Bool, true, false, if◌then◌else◌, List, [], length, Option, Some, None}
use Rattle.async_packet.specs.Packet.{Packet, write_quadlet, write_block, read_quadlet, read_block, lock}

-- A request: whether it is a lock, a write or else a read; whether it is of a block or of a quadlet; where it begins; how many bytes it
-- is of; and the bytes of a block that is written.
pub record Access : Type 0 where
  pub is_lock : Bool
  pub is_write : Bool
  pub is_block : Bool
  pub offset : ℕ
  pub count : ℕ
  pub payload : List ℕ

abbrev pub access_of : Packet → Option Access
access_of (write_quadlet header offset value) = Some (record { is_lock = false; is_write = true; is_block = false; offset = offset; count = 4; payload = [] })
access_of (write_block header offset payload) = Some (record { is_lock = false; is_write = true; is_block = true; offset = offset; count = length payload; payload = payload })
access_of (read_quadlet header offset) = Some (record { is_lock = false; is_write = false; is_block = false; offset = offset; count = 4; payload = [] })
access_of (read_block header offset asked) = Some (record { is_lock = false; is_write = false; is_block = true; offset = offset; count = asked; payload = [] })
access_of (lock header offset extended payload) = Some (record { is_lock = true; is_write = false; is_block = true; offset = offset; count = length payload; payload = [] })
access_of _ = None

-- the registers of an agent
pub data Register : Type 0 where
  agent_state : Register
  agent_reset : Register
  orb_pointer : Register
  doorbell : Register
  unsolicited_enable : Register

-- what starts at an address of the target
pub data Start : Type 0 where
  rom_start : Start
  management_agent : Start
  register : (place : ℕ) → Register → Start
  no_start : Start

abbrev pub rom_base : ℕ
rom_base = 0xfffff0000400

abbrev pub management_address : ℕ
management_address = 0xfffff0010000

abbrev pub registers_base : ℕ
registers_base = 0xfffff0040000

-- the base of the agent of a place of the login table, and the distance of each register from it
abbrev pub base_of : ℕ → ℕ
base_of place = registers_base + 0x20 * place

abbrev pub distance_of : Register → ℕ
distance_of agent_state = 0x00
distance_of agent_reset = 0x04
distance_of orb_pointer = 0x08
distance_of doorbell = 0x10
distance_of unsolicited_enable = 0x14

abbrev pub register_at : (place distance : ℕ) → Start
register_at place distance =
    if distance == 0x00 then register place agent_state
    else if distance == 0x04 then register place agent_reset
    else if distance == 0x08 then register place orb_pointer
    else if distance == 0x10 then register place doorbell
    else if distance == 0x14 then register place unsolicited_enable
    else no_start

-- what starts at an address
unfoldable pub start_at : ℕ → Start
start_at offset =
    if offset == rom_base then rom_start
    else if offset == management_address then management_agent
    else if nat_le registers_base offset && nat_lt offset (base_of 8) then register_at ((offset - registers_base) / 0x20) ((offset - registers_base) % 0x20)
    else no_start

abbrev pub is_start : Start → Bool
is_start no_start = false
is_start _ = true

-- a write of a quadlet, a read of a quadlet, a write and a read of a block of 8 bytes
abbrev pub writes_quadlet : Access → Bool
writes_quadlet access = not access.is_lock && access.is_write && not access.is_block

abbrev pub reads_quadlet : Access → Bool
reads_quadlet access = not access.is_lock && not access.is_write && not access.is_block

abbrev pub writes_pointer : Access → Bool
writes_pointer access = not access.is_lock && access.is_write && access.is_block && access.count == 8

abbrev pub reads_pointer : Access → Bool
reads_pointer access = not access.is_lock && not access.is_write && access.is_block && access.count == 8

-- which accesses a register serves
abbrev pub register_serves : Register → Access → Bool
register_serves agent_state access = reads_quadlet access
register_serves agent_reset access = writes_quadlet access
register_serves orb_pointer access = writes_pointer access || reads_pointer access
register_serves doorbell access = writes_quadlet access
register_serves unsolicited_enable access = writes_quadlet access

-- which accesses a start other than the ROM's serves
abbrev pub start_serves : Start → Access → Bool
start_serves management_agent access = writes_pointer access
start_serves (register place name) access = register_serves name access
start_serves rom_start access = false
start_serves no_start access = false

-- a range that begins inside a ROM of so many bytes, and one that lies in it
abbrev pub begins_in_rom : ℕ → Access → Bool
begins_in_rom size access = nat_le rom_base access.offset && nat_lt access.offset (rom_base + size)

abbrev pub lies_in_rom : ℕ → Access → Bool
lies_in_rom size access = nat_le rom_base access.offset && nat_le (access.offset + access.count) (rom_base + size)
