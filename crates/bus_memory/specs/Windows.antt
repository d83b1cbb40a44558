-- The addresses of an initiator: its windows, and its FIFOs.
use Rattle.std.specs.Prelude.{ℕ, ◌+◌, ◌-◌, ◌*◌, ◌/◌, ◌%◌, ◌^◌, ◌<◌, ◌≤◌, ◌==◌, ◌&&◌, ◌||◌, nat_le, nat_lt, Bool, if◌then◌else◌, Option, Some, None}
use Rattle.bus_memory.specs.declared.window.Window.{Window}
use Rattle.bus_memory.specs.declared.window.Window.TheVariants as windows

-- where a window begins
abbrev pub start : Window → ℕ
start windows.Rom = 0xffff_f000_0400
start (windows.Orb slot) = 0x1000_0000 + 0x40 * slot
start (windows.Table slot) = 0x1010_0000 + 0x200 * slot
start (windows.Buffer slot) = 0x1100_0000 + 0x8000 * slot
start (windows.Management place) = 0x1200_0000 + 0x20 * place
start (windows.Response place) = 0x1200_1000 + 0x100 * place

-- There are 32 slots and two places of management.
abbrev pub IsWindow : Window → Type 0
IsWindow windows.Rom = Unit {0}
IsWindow (windows.Orb slot) = slot < 32
IsWindow (windows.Table slot) = slot < 32
IsWindow (windows.Buffer slot) = slot < 32
IsWindow (windows.Management place) = place < 2
IsWindow (windows.Response place) = place < 2

-- An address stands in the share of a window that exists.
abbrev pub IfShare : ℕ → Option Window → Type 0
IfShare offset None = Unit {0}
IfShare offset (Some window) = IsWindow window × (start window ≤ offset)

-- an address from a base on, below an end
abbrev pub within : ℕ → ℕ → ℕ → Bool
within base end offset = nat_le base offset && nat_lt offset end

-- The window in whose share of the addresses an address stands: shares of a kind follow each other,
-- each as long as the table says.
unfoldable pub window_at : ℕ → Option Window
window_at offset =
    if within 0x1000_0000 0x1000_0800 offset then Some (windows.Orb ((offset - 0x1000_0000) / 0x40))
    else if within 0x1010_0000 0x1010_4000 offset then Some (windows.Table ((offset - 0x1010_0000) / 0x200))
    else if within 0x1100_0000 0x1110_0000 offset then Some (windows.Buffer ((offset - 0x1100_0000) / 0x8000))
    else if within 0x1200_0000 0x1200_0040 offset then Some (windows.Management ((offset - 0x1200_0000) / 0x20))
    else if within 0x1200_1000 0x1200_1200 offset then Some (windows.Response ((offset - 0x1200_1000) / 0x100))
    else if nat_le 0xffff_f000_0400 offset then Some windows.Rom
    else None

-- the slot of a window that is an ORB and begins at this address
abbrev pub slot_from : ℕ → Option Window → Option ℕ
slot_from offset (Some (windows.Orb slot)) = if offset == start (windows.Orb slot) then Some slot else None
slot_from offset _ = None

-- the slot whose ORB begins at an address
unfoldable pub slot_of : ℕ → Option ℕ
slot_of offset = slot_from offset (window_at offset)

-- the FIFOs of the two places of management, and those of the logins, whose number has 32 bits
unfoldable pub is_fifo : ℕ → Bool
is_fifo offset =
    (offset == 0x1200_2000) || (offset == 0x1200_2020)
    || (within 0x1300_0000 (0x1300_0000 + 0x20 * 2 ^ 32) offset && (offset % 0x20 == 0))
