-- How an initiator's memory serves reads and writes (IEEE 1394-1995, rcodes).
use Rattle.std.specs.Prelude.{ℕ, ◌+◌, ◌-◌, ◌≤◌, ◌==◌, ◌&&◌, ◌||◌, not, nat_le, Bool, true, false, if◌then◌else◌, List, length, take, drop, Option, Some, None, Result, Ok, Err}
use Rattle.byteorder.specs.Endian.{big_bytes}
use Rattle.bus_memory.specs.declared.window.Window.{Window}
use Rattle.bus_memory.specs.declared.window.Window.TheVariants as windows
use Rattle.bus_memory.specs.declared.access.Access.{Access}
use Rattle.bus_memory.specs.declared.access.Access.TheVariants.{Read, Write}
use Rattle.bus_memory.specs.declared.access.Rcode.{Rcode}
use Rattle.bus_memory.specs.declared.access.Rcode.TheVariants.{TypeError, AddressError}
use Rattle.bus_memory.specs.declared.access.Spot.{Spot}
use Rattle.bus_memory.specs.Windows.{IsWindow, start, window_at, is_fifo}
use Rattle.bus_memory.specs.Memory.{Memory, slot_at, bytes_in, with_bytes, is_written}

-- a window of a slot is open where the slot is armed, every other always
abbrev pub is_open : Memory → Window → Bool
is_open m windows.Rom = true
is_open m (windows.Orb slot) = (slot_at m slot).is_armed
is_open m (windows.Table slot) = (slot_at m slot).is_armed
is_open m (windows.Buffer slot) = (slot_at m slot).is_armed
is_open m (windows.Management place) = true
is_open m (windows.Response place) = true

-- whether a window is one that the target writes; each other it reads
abbrev pub takes_writes : Memory → Window → Bool
takes_writes m windows.Rom = false
takes_writes m (windows.Orb slot) = false
takes_writes m (windows.Table slot) = false
takes_writes m (windows.Buffer slot) = is_written (slot_at m slot)
takes_writes m (windows.Management place) = false
takes_writes m (windows.Response place) = true

abbrev pub serves : Memory → Access → Window → Bool
serves m Read window = not (takes_writes m window)
serves m Write window = takes_writes m window

-- the place of a range in a window that is open and that the range does not leave
abbrev pub spot_in : Memory → ℕ → ℕ → Option Window → Option Spot
spot_in m offset count None = None
spot_in m offset count (Some window) =
    if is_open m window && nat_le (offset - start window + count) (length (bytes_in m window))
    then Some (record { window = window; at = offset - start window })
    else None

-- A place is in a window that exists, with so many bytes behind it.
pub record IsSpot (m : Memory) (count : ℕ) (spot : Spot) : Type 0 where
  pub exists : IsWindow spot.window
  pub inside : spot.at + count ≤ length (bytes_in m spot.window)

abbrev pub IfSpot : Memory → ℕ → Option Spot → Type 0
IfSpot m count None = Unit {0}
IfSpot m count (Some spot) = IsSpot m count spot

abbrev pub IfServed : Memory → ℕ → Result Spot Rcode → Type 0
IfServed m count (Err rcode) = Unit {0}
IfServed m count (Ok spot) = IsSpot m count spot

-- the place of a range of addresses
unfoldable pub spot_of : Memory → ℕ → ℕ → Option Spot
spot_of m offset count = spot_in m offset count (window_at offset)

abbrev pub judged_at : Memory → Access → Option Spot → Result Spot Rcode
judged_at m access None = Err AddressError
judged_at m access (Some spot) = if serves m access spot.window then Ok spot else Err TypeError

-- where a read or a write of so many bytes is served, or its rcode: the first row that holds
unfoldable pub judged : Memory → Access → ℕ → ℕ → Result Spot Rcode
judged m access offset count =
    if (count == 0) || is_fifo offset then Err TypeError else judged_at m access (spot_of m offset count)

abbrev pub rcode_number : Rcode → ℕ
rcode_number TypeError = 6
rcode_number AddressError = 7

-- so many bytes of a window, from a place in it on
abbrev pub bytes_at : Memory → Spot → ℕ → List ℕ
bytes_at m spot count = take count (drop spot.at (bytes_in m spot.window))

-- A served read gives the bytes of its range; with an rcode other than 0 the room stays.
abbrev pub read_at : Memory → List ℕ → Result Spot Rcode → ℕ × List ℕ
read_at m out (Ok spot) = (0, bytes_at m spot (length out))
read_at m out (Err rcode) = (rcode_number rcode, out)

abbrev pub read_step : Memory → ℕ → List ℕ → ℕ × List ℕ
read_step m offset out = read_at m out (judged m Read offset (length out))

-- A served write changes its range alone; with an rcode other than 0 the memory stays.
abbrev pub write_at : Memory → List ℕ → Result Spot Rcode → ℕ × Memory
write_at m bytes (Ok spot) = (0, with_bytes m spot.window spot.at bytes)
write_at m bytes (Err rcode) = (rcode_number rcode, m)

abbrev pub write_step : Memory → ℕ → List ℕ → ℕ × Memory
write_step m offset bytes = write_at m bytes (judged m Write offset (length bytes))

-- a window that the initiator itself sets by quadlets: each but its ROM
abbrev pub IsOwn : Window → Type 0
IsOwn windows.Rom = ⊥
IsOwn (windows.Orb slot) = Unit {0}
IsOwn (windows.Table slot) = Unit {0}
IsOwn (windows.Buffer slot) = Unit {0}
IsOwn (windows.Management place) = Unit {0}
IsOwn (windows.Response place) = Unit {0}

abbrev pub IsOwnSpot : Option Spot → Type 0
IsOwnSpot None = ⊥
IsOwnSpot (Some spot) = IsOwn spot.window

-- A quadlet of an armed slot or of a place of management stands at this address.
abbrev pub IsQuadlet : Memory → ℕ → Type 0
IsQuadlet m offset = IsOwnSpot (spot_of m offset 4)

abbrev pub set_at : Memory → ℕ → Option Spot → Memory
set_at m value None = m
set_at m value (Some spot) = with_bytes m spot.window spot.at (big_bytes 4 value)

-- a quadlet is set
abbrev pub set_step : Memory → ℕ → ℕ → Memory
set_step m offset value = set_at m value (spot_of m offset 4)
