-- That changes of the image outside the calls of the slots keep what it holds of them.
use Rattle.std.proofs.Common.{arith, ◌≡◌, refl, ◌∙◌, subst, sym, ℕ, ◌+◌, ◌-◌, ◌≤◌, ◌==◌, ◌||◌, Bool, true, false, cond, List, length, Option, Some, None, Ok, Err}
use Rattle.byteorder.specs.Endian.{big_bytes}
use Rattle.bus_memory.specs.declared.access.Access.TheVariants.{Write}
use Rattle.bus_memory.specs.declared.access.Rcode.TheVariants.{TypeError}
use Rattle.bus_memory.specs.declared.access.Spot.{Spot}
use Rattle.bus_memory.specs.declared.window.Window.{Window}
use Rattle.bus_memory.specs.declared.window.Window.TheVariants as windows
use Rattle.bus_memory.specs.Windows.{IsWindow, start, is_fifo}
use Rattle.bus_memory.specs.Memory.{Memory, with_bytes}
use Rattle.bus_memory.specs.Access.{judged, judged_at, spot_of, takes_writes, write_at, write_step, set_at, set_step}
use Rattle.bus_memory.specs.Laws.{IsFound, IsInside, size}
use Rattle.bus_memory.proofs.Found.{window_law}
use Rattle.bus_memory.proofs.Written.{whole_set}
use Rattle.orb_list.specs.declared.slot.Slot.{Slot}
use Rattle.orb_list.specs.Holds.{HoldsSlots}
use Rattle.orb_list.specs.Stays.{KeepsSlots, StaysLaw}
use Rattle.orb_list.proofs.Held.{armed_stays}
use Rattle.orb_list.proofs.Imaged.{data_window}
use Rattle.orb_list.proofs.Spelled.{IsData, data_orb, data_table}

as_it_was : (slots : List Slot) (m : Memory) → HoldsSlots slots m → KeepsSlots slots m m
as_it_was slots m h = record { held = h; orb = λ number. refl; table = λ number. refl }

stays_set : (slots : List Slot) (m : Memory) (w : Window) (at : ℕ) (bytes : List ℕ) → IsData w → IsWindow w → at + length bytes ≤ size m w → HoldsSlots slots m → KeepsSlots slots m (with_bytes m w at bytes)
stays_set slots m w at bytes d x e h = record {
  held = record {
    whole = whole_set m w at bytes h.whole x e;
    armed = λ number b. armed_stays m w at bytes number h.whole.slots x ∙ h.armed number b;
  };
  orb = λ number. data_orb m w at bytes number d h.whole x;
  table = λ number. data_table m w at bytes number d h.whole x;
}

stays_spot : (slots : List Slot) (m : Memory) (offset : ℕ) (bytes : List ℕ) (spot : Spot) (taken : Bool) → takes_writes m spot.window ≡ taken → IsFound m offset (length bytes) (Some spot) → HoldsSlots slots m → KeepsSlots slots m (write_at m bytes (cond taken (Ok spot) (Err TypeError))).1
stays_spot slots m offset bytes spot false e f h = as_it_was slots m h
stays_spot slots m offset bytes spot true e f h =
    let g = f.0.ends in
    let p : start spot.window + spot.at ≡ offset = f.2 in
    stays_set slots m spot.window spot.at bytes (data_window m spot.window e) f.0.exists (omega arith) h

stays_found : (slots : List Slot) (m : Memory) (offset : ℕ) (bytes : List ℕ) (found : Option Spot) → IsFound m offset (length bytes) found → HoldsSlots slots m → KeepsSlots slots m (write_at m bytes (judged_at m Write found)).1
stays_found slots m offset bytes None f h = as_it_was slots m h
stays_found slots m offset bytes (Some spot) f h = stays_spot slots m offset bytes spot (takes_writes m spot.window) refl f h

stays_when : (slots : List Slot) (m : Memory) (offset : ℕ) (bytes : List ℕ) (b : Bool) → HoldsSlots slots m → KeepsSlots slots m (write_at m bytes (cond b (Err TypeError) (judged_at m Write (spot_of m offset (length bytes))))).1
stays_when slots m offset bytes true h = as_it_was slots m h
stays_when slots m offset bytes false h =
    stays_found slots m offset bytes (spot_of m offset (length bytes)) (window_law.no_other m offset (length bytes) h.whole) h

stays_write : (slots : List Slot) (m : Memory) (offset : ℕ) (bytes : List ℕ) → HoldsSlots slots m → KeepsSlots slots m (write_step m offset bytes).1
unfolding judged
stays_write slots m offset bytes h = stays_when slots m offset bytes ((length bytes == 0) || is_fifo offset) h

stays_quad : (slots : List Slot) (m : Memory) (place offset value : ℕ) → HoldsSlots slots m → IsInside m offset 4 (windows.Management place) → KeepsSlots slots m (set_step m offset value)
stays_quad slots m place offset value h i =
    let b = i.begins in
    let e = i.ends in
    subst (λ (found : Option Spot). KeepsSlots slots m (set_at m value found)) (sym (window_law.found m offset 4 (windows.Management place) h.whole (omega arith) i refl))
    (stays_set slots m (windows.Management place) (offset - start (windows.Management place)) (big_bytes 4 value) tt i.exists (omega arith) h)

pub stays_law : StaysLaw
stays_law = record {
  write = stays_write;
  fill = λ slots m slot at bytes h s i. stays_set slots m (windows.Buffer slot) at bytes tt s i h;
  set = stays_quad;
}
