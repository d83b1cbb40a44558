-- What the definitions of windows and accesses say in other words.
use Rattle.std.specs.Prelude.{◌≡◌, ℕ, ◌+◌, ◌-◌, ◌*◌, ◌^◌, ◌<◌, ◌≤◌, ◌==◌, ◌&&◌, ◌⊎◌, ◌↔◌, nat_le, nat_lt, Bool, true, false, if◌then◌else◌, List, [], ◌∷◌, length, take, slice_index_or, Option, Some, None}
use Rattle.byteorder.specs.Endian.{big_bytes}
use Rattle.bus_memory.specs.declared.window.Window.{Window}
use Rattle.bus_memory.specs.declared.window.Window.TheVariants as windows
use Rattle.bus_memory.specs.declared.access.Spot.{Spot}
use Rattle.bus_memory.specs.Windows.{IsWindow, start, is_fifo, slot_of}
use Rattle.bus_memory.specs.Memory.{Memory, empty_slot, new_memory, slot_at, bytes_in, patch, with_bytes, with_armed}
use Rattle.bus_memory.specs.Access.{is_open, spot_of, read_step, IsQuadlet, set_step}

-- how many bytes a window has
abbrev pub size : Memory → Window → ℕ
size m windows.Rom = length m.rom
size m (windows.Orb slot) = 32
size m (windows.Table slot) = 512
size m (windows.Buffer slot) = 32768
size m (windows.Management place) = 32
size m (windows.Response place) = 256

-- There are 32 slots and two places, and every window has its length.
pub record IsWhole (m : Memory) : Type 0 where
  pub slots : length m.slots ≡ 32
  pub places : length m.places ≡ 2
  pub sizes : (window : Window) → length (bytes_in m window) ≡ size m window

-- A range of addresses lies inside a window.
pub record IsInside (m : Memory) (offset count : ℕ) (window : Window) : Type 0 where
  pub exists : IsWindow window
  pub begins : start window ≤ offset
  pub ends : offset + count ≤ start window + size m window

-- The place that is found is in an open window that the range does not leave.
abbrev pub IsFound : Memory → ℕ → ℕ → Option Spot → Type 0
IsFound m offset count None = Unit {0}
IsFound m offset count (Some spot) =
    IsInside m offset count spot.window × (is_open m spot.window ≡ true) × (start spot.window + spot.at ≡ offset)

-- A range of one byte or more inside an open window is found there, and no other is found: none that leaves its window,
-- none of a slot that is not armed, none outside every window.
pub record WindowLaw : Type 0 where
  pub found : (m : Memory) (offset count : ℕ) (window : Window) → IsWhole m → 0 < count → IsInside m offset count window → is_open m window ≡ true → spot_of m offset count ≡ Some (record { window = window; at = offset - start window })
  pub no_other : (m : Memory) (offset count : ℕ) → IsWhole m → IsFound m offset count (spot_of m offset count)

-- The FIFOs are those of the two places and those of the login numbers, which have 32 bits.
abbrev pub FifoLaw : Type 0
FifoLaw =
    (offset : ℕ) → is_fifo offset ≡ true ↔ (((place : ℕ) × ((place < 2) × (offset ≡ 0x1200_2000 + 0x20 * place))) ⊎ ((login : ℕ) × ((login < 2 ^ 32) × (offset ≡ 0x1300_0000 + 0x20 * login))))

-- The slot of an address is the one whose ORB begins there, and each slot is found by that address.
pub record SlotOfLaw : Type 0 where
  pub begins : (offset slot : ℕ) → slot_of offset ≡ Some slot → (slot < 32) × (offset ≡ start (windows.Orb slot))
  pub found : (slot : ℕ) → slot < 32 → slot_of (start (windows.Orb slot)) ≡ Some slot

-- what changes a memory: bytes that are set in a window, from a place in it on, and slots that are armed and freed
pub data Change : Type 0 where
  Sets : Window → ℕ → List ℕ → Change
  Arms : ℕ → Bool → Change

-- the memory after changes, the latest first
abbrev pub after : List Change → Memory → Memory
after [] m = m
after (Sets window at bytes ∷ earlier) m = with_bytes (after earlier m) window at bytes
after (Arms slot armed ∷ earlier) m = with_armed (after earlier m) slot armed

-- Each change is to a window or a slot that exists, and inside it.
abbrev pub AreChanges : List Change → Memory → Type 0
AreChanges [] m = Unit {0}
AreChanges (Sets window at bytes ∷ earlier) m = IsWindow window × (at + length bytes ≤ size m window) × AreChanges earlier m
AreChanges (Arms slot armed ∷ earlier) m = (slot < 32) × AreChanges earlier m

abbrev pub is_same : Window → Window → Bool
is_same windows.Rom windows.Rom = true
is_same (windows.Orb slot) (windows.Orb other) = slot == other
is_same (windows.Table slot) (windows.Table other) = slot == other
is_same (windows.Buffer slot) (windows.Buffer other) = slot == other
is_same (windows.Management place) (windows.Management other) = place == other
is_same (windows.Response place) (windows.Response other) = place == other
is_same _ _ = false

-- byte `i` of a window was set here
abbrev pub covers : Window → ℕ → List ℕ → Window → ℕ → Bool
covers window at bytes asked i = is_same window asked && (nat_le at i && nat_lt i (at + length bytes))

-- the byte that was last set at a place of a window, or the one that stood there
abbrev pub last_set : List Change → Memory → Window → ℕ → ℕ
last_set [] m asked i = slice_index_or (bytes_in m asked) i 0
last_set (Sets window at bytes ∷ earlier) m asked i =
    if covers window at bytes asked i then slice_index_or bytes (i - at) 0 else last_set earlier m asked i
last_set (Arms slot armed ∷ earlier) m asked i = last_set earlier m asked i

-- What a window holds, without its bytes being computed: a new memory has empty slots, of which none is armed; bytes that are
-- set change their range of their window alone; and arming changes no byte. Every window keeps its length.
pub record PartsLaw : Type 0 where
  pub new : (quads : List ℕ) (slot : ℕ) → slot_at (new_memory quads) slot ≡ empty_slot
  pub free : empty_slot.is_armed ≡ false
  pub set : (m : Memory) (window : Window) (at : ℕ) (bytes : List ℕ) (asked : Window) → IsWhole m → IsWindow window → bytes_in (with_bytes m window at bytes) asked ≡ (if is_same window asked then patch (bytes_in m asked) at bytes else bytes_in m asked)
  pub armed : (m : Memory) (slot : ℕ) (armed : Bool) (asked : Window) → IsWhole m → slot < 32 → bytes_in (with_armed m slot armed) asked ≡ bytes_in m asked
  pub whole_set : (m : Memory) (window : Window) (at : ℕ) (bytes : List ℕ) → IsWhole m → IsWindow window → at + length bytes ≤ size m window → IsWhole (with_bytes m window at bytes)
  pub whole_armed : (m : Memory) (slot : ℕ) (armed : Bool) → IsWhole m → slot < 32 → IsWhole (with_armed m slot armed)

-- A read from the start of a slot's ORB on gives, where it is served, the first bytes of that ORB. A quadlet inside a place
-- of management may be set, and is set at its place there.
pub record OwnLaw : Type 0 where
  pub read : (m : Memory) (slot : ℕ) (out : List ℕ) → slot < 32 → (read_step m (start (windows.Orb slot)) out).0 ≡ 0 → (read_step m (start (windows.Orb slot)) out).1 ≡ take (length out) (slot_at m slot).orb
  pub quadlet : (m : Memory) (offset place : ℕ) → IsWhole m → IsInside m offset 4 (windows.Management place) → IsQuadlet m offset
  pub set : (m : Memory) (offset place value : ℕ) → IsWhole m → IsInside m offset 4 (windows.Management place) → set_step m offset value ≡ with_bytes m (windows.Management place) (offset - start (windows.Management place)) (big_bytes 4 value)

-- A new memory has every window at its length, and over every list of changes a window holds at each place the byte last
-- set there.
pub record LastSetLaw : Type 0 where
  pub new : (quads : List ℕ) → IsWhole (new_memory quads)
  pub last : (m : Memory) (changes : List Change) (window : Window) (i : ℕ) → IsWhole m → AreChanges changes m → IsWindow window → i < size m window → slice_index_or (bytes_in (after changes m) window) i 0 ≡ last_set changes m window i
