-- Where the things of an initiator stand.
use Rattle.std.specs.Prelude.{ℕ, ◌+◌, ◌*◌, ◌%◌, ◌^◌, ◌==◌, ◌&&◌, ◌||◌, nat_le, Bool, false, List, length}
use Rattle.async_packet.specs.Packet.{Packet, read_quadlet, read_block}
use Rattle.bus_memory.specs.declared.window.Window.TheVariants as windows
use Rattle.bus_memory.specs.Windows.{start}
use Rattle.orb_layout.specs.Pointers.{offset_at}

-- an address so far behind another, of 48 bits
abbrev pub behind_by : ℕ → ℕ → ℕ
behind_by base distance = (base + distance) % 2 ^ 48

-- the FIFO of a login number, and that of a place of management
abbrev pub login_fifo : ℕ → ℕ
login_fifo number = 0x1300_0000 + 0x20 * number

abbrev pub place_fifo : ℕ → ℕ
place_fifo place = 0x1200_2000 + 0x20 * place

-- where MANAGEMENT_AGENT stands by a ROM
abbrev pub management_at : ℕ → ℕ
management_at distance = behind_by 0xffff_f000_0000 (4 * distance)

-- a range of the ROM, of 8 quadlets
abbrev pub is_in_rom : ℕ → ℕ → Bool
is_in_rom offset count = nat_le 0xffff_f000_0400 offset && nat_le (offset + count) (0xffff_f000_0400 + 32)

abbrev pub reads_rom : Packet → Bool
reads_rom (read_quadlet header offset) = is_in_rom offset 4
reads_rom (read_block header offset asked) = is_in_rom offset asked
reads_rom _ = false

-- a management ORB stands at this address
abbrev pub is_managed_orb : ℕ → Bool
is_managed_orb offset = offset == start (windows.Management 0) || offset == start (windows.Management 1)

-- the status block in a payload: it names a management ORB where its offset is that of a place
abbrev pub names_place : List ℕ → Bool
names_place payload = nat_le 8 (length payload) && is_managed_orb (offset_at payload 0)
