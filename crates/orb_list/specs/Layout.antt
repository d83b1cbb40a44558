-- What is written into a slot for a request (NCITS 325-1998, command block ORB, page tables).
use Rattle.std.specs.Prelude.{ℕ, ◌+◌, ◌*◌, ◌/◌, ◌^◌, ◌<◌, ◌&&◌, nat_lt, Bool, true, false, if◌then◌else◌, List, [], ◌∷◌, ◌++◌, length, take, drop}
use Rattle.byteorder.specs.Endian.{big_bytes}
use Rattle.bus_memory.specs.declared.window.Window.{Window}
use Rattle.bus_memory.specs.declared.window.Window.TheVariants as windows
use Rattle.bus_memory.specs.Windows.{start}
use Rattle.bus_memory.specs.Memory.{Memory, with_armed, with_bytes}
use Rattle.orb_layout.specs.declared.pointer.OrbPointer.TheVariants.{Null}
use Rattle.orb_layout.specs.declared.command.CommandOrb.{CommandOrb}
use Rattle.orb_layout.specs.CommandOrbs.{command_bytes}
use Rattle.orb_list.specs.Requests.{Asked}

-- The ORB or the page table of a slot that exists.
abbrev pub IsSlotWindow : Window → Type 0
IsSlotWindow windows.Rom = ⊥
IsSlotWindow (windows.Orb slot) = slot < 32
IsSlotWindow (windows.Table slot) = slot < 32
IsSlotWindow (windows.Buffer slot) = ⊥
IsSlotWindow (windows.Management place) = ⊥
IsSlotWindow (windows.Response place) = ⊥

abbrev pub slot_size : Window → ℕ
slot_size windows.Rom = 0
slot_size (windows.Orb slot) = 32
slot_size (windows.Table slot) = 512
slot_size (windows.Buffer slot) = 32768
slot_size (windows.Management place) = 0
slot_size (windows.Response place) = 0

-- where the data of a request begins: its page table, or its buffer
abbrev pub data_start : ℕ → List ℕ → ℕ
data_start slot [] = start (windows.Buffer slot)
data_start slot (first ∷ rest) = start (windows.Table slot)

-- its length: the elements of its page table, or the bytes of its buffer
abbrev pub data_size : ℕ → List ℕ → ℕ
data_size count [] = count
data_size count (first ∷ rest) = length (first ∷ rest)

abbrev pub has_table : List ℕ → Bool
has_table [] = false
has_table (first ∷ rest) = true

-- the ORB of a request in a slot, with a null next pointer; without data its descriptor is zero
abbrev pub orb_of : Asked → ℕ → CommandOrb
orb_of asked slot = record {
  next = Null;
  descriptor = if nat_lt 0 (data_size asked.length asked.segments) then data_start slot asked.segments else 0;
  descriptor_node = if nat_lt 0 (data_size asked.length asked.segments) then asked.node else 0;
  format = 0;
  notify = true;
  to_initiator = asked.to_initiator && nat_lt 0 asked.length;
  speed = 2;
  max_payload = asked.max_payload;
  has_table = has_table asked.segments;
  page_size = 0;
  data_size = data_size asked.length asked.segments;
  cdb = asked.cdb;
}

-- where the segment behind one begins in the buffer: its length rounded up to 4 bytes, and 16 bytes on
abbrev pub behind : ℕ → ℕ → ℕ
behind at count = at + (count + 3) / 4 * 4 + 16

-- the elements of the page table: a segment's length, and its place in the buffer
abbrev pub table_bytes : ℕ → ℕ → List ℕ → List ℕ
table_bytes slot at [] = []
table_bytes slot at (count ∷ rest) =
    big_bytes 4 (count * 2 ^ 16) ++ (big_bytes 4 (start (windows.Buffer slot) + at) ++ table_bytes slot (behind at count) rest)

-- the memory with data in the segments of a slot's buffer, in order
abbrev pub data_in_segments : Memory → ℕ → ℕ → List ℕ → List ℕ → Memory
data_in_segments m slot at [] data_left = m
data_in_segments m slot at (count ∷ rest) data_left =
    data_in_segments (with_bytes m (windows.Buffer slot) at (take count data_left)) slot (behind at count) rest (drop count data_left)

-- the memory with data in a slot's buffer
abbrev pub data_written : Memory → ℕ → List ℕ → List ℕ → Memory
data_written m slot [] payload = with_bytes m (windows.Buffer slot) 0 payload
data_written m slot (first ∷ rest) payload = data_in_segments m slot 0 (first ∷ rest) payload

-- the memory with a request in a slot: the slot is armed, and its ORB, its page table and its data are written
abbrev pub written : Memory → ℕ → Asked → Memory
written m slot asked =
    let armed = with_armed m slot true in
    let orb = with_bytes armed (windows.Orb slot) 0 (command_bytes (orb_of asked slot)) in
    let table = with_bytes orb (windows.Table slot) 0 (table_bytes slot 0 asked.segments) in
    data_written table slot asked.segments asked.payload
