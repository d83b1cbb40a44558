-- What changes of the image outside the calls of the slots leave.
use Rattle.std.specs.Prelude.{◌≡◌, ℕ, ◌+◌, ◌<◌, ◌≤◌, List, length}
use Rattle.bus_memory.specs.declared.window.Window.TheVariants as windows
use Rattle.bus_memory.specs.Memory.{Memory, slot_at, with_bytes}
use Rattle.bus_memory.specs.Access.{write_step, set_step}
use Rattle.bus_memory.specs.Laws.{IsInside}
use Rattle.orb_list.specs.declared.slot.Slot.{Slot}
use Rattle.orb_list.specs.Holds.{HoldsSlots}

-- The new memory holds the slots, and each slot's ORB and page table have the bytes that they had.
pub record KeepsSlots (slots : List Slot) (old new : Memory) : Type 0 where
  pub held : HoldsSlots slots new
  pub orb : (number : ℕ) → (slot_at new number).orb ≡ (slot_at old number).orb
  pub table : (number : ℕ) → (slot_at new number).table ≡ (slot_at old number).table

-- A write of the target, served or not, a fill of any slot, and a quadlet that is set in a place of management keep what a
-- memory holds of the slots.
pub record StaysLaw : Type 0 where
  pub write : (slots : List Slot) (m : Memory) (offset : ℕ) (bytes : List ℕ) → HoldsSlots slots m → KeepsSlots slots m (write_step m offset bytes).1
  pub fill : (slots : List Slot) (m : Memory) (slot at : ℕ) (bytes : List ℕ) → HoldsSlots slots m → slot < 32 → at + length bytes ≤ 32768 → KeepsSlots slots m (with_bytes m (windows.Buffer slot) at bytes)
  pub set : (slots : List Slot) (m : Memory) (place offset value : ℕ) → HoldsSlots slots m → IsInside m offset 4 (windows.Management place) → KeepsSlots slots m (set_step m offset value)
