-- What closing the free slots leaves of a memory.
use Rattle.std.proofs.Common.{arith, ◌≡◌, refl, sym, ◌∙◌, ap, ℕ, zero, suc, ◌+◌, ◌<◌, ◌≤◌, ◌&&◌, not, Bool, true, false, List, [], ◌∷◌, length, take, get_or}
use Rattle.std.proofs.Math.ListN.{set}
use Rattle.bus_memory.specs.declared.slot.SlotMemory.{SlotMemory}
use Rattle.bus_memory.specs.declared.window.Window.{Window}
use Rattle.bus_memory.specs.declared.window.Window.TheVariants as windows
use Rattle.bus_memory.specs.Memory.{Memory, empty_slot, slot_at, with_armed, bytes_in}
use Rattle.bus_memory.specs.Laws.{IsWhole, size}
use Rattle.orb_list.specs.declared.slot.Slot.{Slot}
use Rattle.orb_list.specs.Table.{is_free, unused, slot_in, closed_slot, closed_slots, closed}

and_false : (b : Bool) → (b && false) ≡ false
and_false true = refl
and_false false = refl

and_true : (b : Bool) → (b && true) ≡ b
and_true true = refl
and_true false = refl

slot_free : (slot : Slot) (memory : SlotMemory) → is_free slot ≡ true → closed_slot slot memory ≡ record memory { is_armed = false }
slot_free slot memory e = ap (λ (b : Bool). record memory { is_armed = memory.is_armed && not b }) e ∙ ap (λ (b : Bool). record memory { is_armed = b }) (and_false memory.is_armed)

slot_held : (slot : Slot) (memory : SlotMemory) → is_free slot ≡ false → closed_slot slot memory ≡ memory
slot_held slot memory e = ap (λ (b : Bool). record memory { is_armed = memory.is_armed && not b }) e ∙ ap (λ (b : Bool). record memory { is_armed = b }) (and_true memory.is_armed)

free_more : (slots : List Slot) (memories : List SlotMemory) (i : ℕ) → i < length slots → is_free (get_or slots i unused) ≡ true → set (closed_slots (take i slots) memories) i (record (get_or (closed_slots (take i slots) memories) i empty_slot) { is_armed = false }) ≡ closed_slots (take (suc i) slots) memories
free_more [] memories i h e = absurd (omega arith)
free_more (slot ∷ slots) [] zero h e = refl
free_more (slot ∷ slots) (memory ∷ memories) zero h e = ap (λ (m : SlotMemory). m ∷ memories) (sym (slot_free slot memory e))
free_more (slot ∷ slots) [] (suc i) h e = refl
free_more (slot ∷ slots) (memory ∷ memories) (suc i) h e =
    ap (λ (l : List SlotMemory). closed_slot slot memory ∷ l) (free_more slots memories i (omega arith) e)

held_more : (slots : List Slot) (memories : List SlotMemory) (i : ℕ) → i < length slots → is_free (get_or slots i unused) ≡ false → closed_slots (take i slots) memories ≡ closed_slots (take (suc i) slots) memories
held_more [] memories i h e = absurd (omega arith)
held_more (slot ∷ slots) [] zero h e = refl
held_more (slot ∷ slots) (memory ∷ memories) zero h e = ap (λ (m : SlotMemory). m ∷ memories) (sym (slot_held slot memory e))
held_more (slot ∷ slots) [] (suc i) h e = refl
held_more (slot ∷ slots) (memory ∷ memories) (suc i) h e =
    ap (λ (l : List SlotMemory). closed_slot slot memory ∷ l) (held_more slots memories i (omega arith) e)

slot_unarmed : (slot : Slot) (memory : SlotMemory) → memory.is_armed ≡ false → closed_slot slot memory ≡ memory
slot_unarmed slot memory e = ap (λ (b : Bool). record memory { is_armed = b && not (is_free slot) }) e ∙ ap (λ (b : Bool). record memory { is_armed = b }) (sym e)

unarmed_more : (slots : List Slot) (memories : List SlotMemory) (i : ℕ) → i < length slots → (get_or memories i empty_slot).is_armed ≡ false → closed_slots (take i slots) memories ≡ closed_slots (take (suc i) slots) memories
unarmed_more [] memories i h e = absurd (omega arith)
unarmed_more (slot ∷ slots) [] zero h e = refl
unarmed_more (slot ∷ slots) (memory ∷ memories) zero h e = ap (λ (m : SlotMemory). m ∷ memories) (sym (slot_unarmed slot memory e))
unarmed_more (slot ∷ slots) [] (suc i) h e = refl
unarmed_more (slot ∷ slots) (memory ∷ memories) (suc i) h e =
    ap (λ (l : List SlotMemory). closed_slot slot memory ∷ l) (unarmed_more slots memories i (omega arith) e)

pub closed_none : (slots : List Slot) (m : Memory) → closed (take 0 slots) m ≡ m
unfolding closed
closed_none slots m = refl

pub closed_free : (slots : List Slot) (m : Memory) (i : ℕ) → i < length slots → is_free (get_or slots i unused) ≡ true → with_armed (closed (take i slots) m) i false ≡ closed (take (i + 1) slots) m
unfolding closed
closed_free slots m i h e =
    let n : suc i ≡ i + 1 = omega arith in
    ap (λ (l : List SlotMemory). record m { slots = l }) (free_more slots m.slots i h e)
    ∙ ap (λ (k : ℕ). record m { slots = closed_slots (take k slots) m.slots }) n

pub closed_held : (slots : List Slot) (m : Memory) (i : ℕ) → i < length slots → is_free (get_or slots i unused) ≡ false → closed (take i slots) m ≡ closed (take (i + 1) slots) m
unfolding closed
closed_held slots m i h e =
    let n : suc i ≡ i + 1 = omega arith in
    ap (λ (l : List SlotMemory). record m { slots = l }) (held_more slots m.slots i h e)
    ∙ ap (λ (k : ℕ). record m { slots = closed_slots (take k slots) m.slots }) n

pub closed_unarmed : (slots : List Slot) (m : Memory) (i : ℕ) → i < length slots → (slot_at m i).is_armed ≡ false → closed (take i slots) m ≡ closed (take (i + 1) slots) m
unfolding closed
closed_unarmed slots m i h e =
    let n : suc i ≡ i + 1 = omega arith in
    ap (λ (l : List SlotMemory). record m { slots = l }) (unarmed_more slots m.slots i h e)
    ∙ ap (λ (k : ℕ). record m { slots = closed_slots (take k slots) m.slots }) n

-- Each slot for itself.
slots_at : (slots : List Slot) (memories : List SlotMemory) (i : ℕ) → i < length slots → i < length memories → get_or (closed_slots slots memories) i empty_slot ≡ closed_slot (get_or slots i unused) (get_or memories i empty_slot)
slots_at [] memories i h k = absurd (omega arith)
slots_at (slot ∷ slots) [] i h k = absurd (omega arith)
slots_at (slot ∷ slots) (memory ∷ memories) zero h k = refl
slots_at (slot ∷ slots) (memory ∷ memories) (suc i) h k = slots_at slots memories i (omega arith) (omega arith)

past_slots : (slots : List Slot) (memories : List SlotMemory) (i : ℕ) → length slots ≤ i → get_or (closed_slots slots memories) i empty_slot ≡ get_or memories i empty_slot
past_slots [] memories i h = refl
past_slots (slot ∷ slots) [] i h = refl
past_slots (slot ∷ slots) (memory ∷ memories) zero h = absurd (omega arith)
past_slots (slot ∷ slots) (memory ∷ memories) (suc i) h = past_slots slots memories i (omega arith)

slots_length : (slots : List Slot) (memories : List SlotMemory) → length (closed_slots slots memories) ≡ length memories
slots_length [] memories = refl
slots_length (slot ∷ slots) [] = refl
slots_length (slot ∷ slots) (memory ∷ memories) = let e = slots_length slots memories in omega arith

pub closed_at : (slots : List Slot) (m : Memory) (i : ℕ) → i < length slots → i < length m.slots → slot_at (closed slots m) i ≡ closed_slot (slot_in slots i) (slot_at m i)
unfolding closed
closed_at slots m i h k = slots_at slots m.slots i h k

-- The bytes of a slot stay.
field_stays : (slots : List Slot) (memories : List SlotMemory) (i : ℕ) (f : SlotMemory → List ℕ) → ((memory : SlotMemory) (armed : Bool) → f (record memory { is_armed = armed }) ≡ f memory) → f (get_or (closed_slots slots memories) i empty_slot) ≡ f (get_or memories i empty_slot)
field_stays [] memories i f e = refl
field_stays (slot ∷ slots) [] i f e = refl
field_stays (slot ∷ slots) (memory ∷ memories) zero f e = e memory _
field_stays (slot ∷ slots) (memory ∷ memories) (suc i) f e = field_stays slots memories i f e

pub closed_keeps : (slots : List Slot) (m : Memory) (asked : Window) → bytes_in (closed slots m) asked ≡ bytes_in m asked
unfolding closed
closed_keeps slots m (windows.Orb k) = field_stays slots m.slots k (λ slot. slot.orb) (λ memory armed. refl)
closed_keeps slots m (windows.Table k) = field_stays slots m.slots k (λ slot. slot.table) (λ memory armed. refl)
closed_keeps slots m (windows.Buffer k) = field_stays slots m.slots k (λ slot. slot.buffer) (λ memory armed. refl)
closed_keeps slots m windows.Rom = refl
closed_keeps slots m (windows.Management k) = refl
closed_keeps slots m (windows.Response k) = refl

size_stays : (slots : List Slot) (m : Memory) (asked : Window) → size (closed slots m) asked ≡ size m asked
unfolding closed
size_stays slots m (windows.Orb k) = refl
size_stays slots m (windows.Table k) = refl
size_stays slots m (windows.Buffer k) = refl
size_stays slots m windows.Rom = refl
size_stays slots m (windows.Management k) = refl
size_stays slots m (windows.Response k) = refl

pub closed_whole : (slots : List Slot) (m : Memory) → IsWhole m → IsWhole (closed slots m)
unfolding closed
closed_whole slots m whole = record {
  slots = slots_length slots m.slots ∙ whole.slots;
  places = whole.places;
  sizes = λ asked. ap (λ (l : List ℕ). length l) (closed_keeps slots m asked) ∙ whole.sizes asked ∙ sym (size_stays slots m asked);
}
