-- What an initiator's memory holds, window by window.
use Rattle.std.specs.Prelude.{ℕ, ◌+◌, ◌/◌, ◌%◌, ◌^◌, ◌==◌, Bool, false, List, ◌++◌, length, take, drop, replicate, slice_index_or, slice_set}
use Rattle.std.specs.List.{flat_map}
use Rattle.byteorder.specs.Endian.{big_bytes}
use Rattle.sbp_base.specs.Quadlets.{quad}
use Rattle.bus_memory.specs.declared.slot.SlotMemory.{SlotMemory}
use Rattle.bus_memory.specs.declared.slot.PlaceMemory.{PlaceMemory}
use Rattle.bus_memory.specs.declared.window.Window.{Window}
use Rattle.bus_memory.specs.declared.window.Window.TheVariants as windows

-- the bytes of the ROM, the 32 slots and the two places of management
pub record Memory : Type 0 where
  pub rom : List ℕ
  pub slots : List SlotMemory
  pub places : List PlaceMemory

unfoldable pub empty_slot : SlotMemory
empty_slot = record { is_armed = false; orb = replicate 32 0; table = replicate 512 0; buffer = replicate 32768 0 }

unfoldable pub empty_place : PlaceMemory
empty_place = record { orb = replicate 32 0; response = replicate 256 0 }

abbrev pub rom_bytes : List ℕ → List ℕ
rom_bytes quads = flat_map (big_bytes 4) quads

-- no slot is armed, and every window but the ROM's holds zeros
unfoldable pub new_memory : List ℕ → Memory
new_memory quads = record { rom = rom_bytes quads; slots = replicate 32 empty_slot; places = replicate 2 empty_place }

abbrev pub slot_at : Memory → ℕ → SlotMemory
slot_at m slot = slice_index_or m.slots slot empty_slot

abbrev pub place_at : Memory → ℕ → PlaceMemory
place_at m place = slice_index_or m.places place empty_place

-- the bytes that a window holds
abbrev pub bytes_in : Memory → Window → List ℕ
bytes_in m windows.Rom = m.rom
bytes_in m (windows.Orb slot) = (slot_at m slot).orb
bytes_in m (windows.Table slot) = (slot_at m slot).table
bytes_in m (windows.Buffer slot) = (slot_at m slot).buffer
bytes_in m (windows.Management place) = (place_at m place).orb
bytes_in m (windows.Response place) = (place_at m place).response

-- bytes with others written over those from a place on
abbrev pub patch : List ℕ → ℕ → List ℕ → List ℕ
patch old at bytes = take at old ++ (bytes ++ drop (at + length bytes) old)

abbrev pub with_slot : Memory → ℕ → SlotMemory → Memory
with_slot m number slot = record m { slots = slice_set m.slots number slot }

abbrev pub with_place : Memory → ℕ → PlaceMemory → Memory
with_place m number place = record m { places = slice_set m.places number place }

-- the memory with bytes written into a window, from a place in it on
abbrev pub with_bytes : Memory → Window → ℕ → List ℕ → Memory
with_bytes m windows.Rom at bytes = record m { rom = patch m.rom at bytes }
with_bytes m (windows.Orb slot) at bytes = with_slot m slot (record (slot_at m slot) { orb = patch (slot_at m slot).orb at bytes })
with_bytes m (windows.Table slot) at bytes = with_slot m slot (record (slot_at m slot) { table = patch (slot_at m slot).table at bytes })
with_bytes m (windows.Buffer slot) at bytes = with_slot m slot (record (slot_at m slot) { buffer = patch (slot_at m slot).buffer at bytes })
with_bytes m (windows.Management place) at bytes = with_place m place (record (place_at m place) { orb = patch (place_at m place).orb at bytes })
with_bytes m (windows.Response place) at bytes = with_place m place (record (place_at m place) { response = patch (place_at m place).response at bytes })

-- a slot is armed or freed
abbrev pub with_armed : Memory → ℕ → Bool → Memory
with_armed m slot armed = with_slot m slot (record (slot_at m slot) { is_armed = armed })

-- the direction of a slot's ORB is 1 (bit 27 of its quadlet 4): the target writes the buffer
abbrev pub is_written : SlotMemory → Bool
is_written slot = quad slot.orb 16 / 2 ^ 27 % 2 == 1
