-- What a window holds after bytes were set.
use Rattle.std.proofs.Common.{arith, ◌≡◌, refl, sym, ◌∙◌, ap, ℕ, ◌+◌, ◌-◌, ◌<◌, ◌≤◌, ◌&&◌, ◌++◌, nat_le, nat_lt, nat_eq, Bool, true, false, cond, List, [], ◌∷◌, length, take, drop, get_or, replicate, zero, suc, length-append, length-take, length-drop}
use Rattle.std.proofs.Math.ListN.{length-set}
use Rattle.std.proofs.lemmas.Bool.Decides.{nat_tests}
use Rattle.std.proofs.lemmas.Grind.{common_steps}
use Rattle.std.proofs.lemmas.List.{length-replicate, get_or-drop, get_or-take, get_or_append_left, get_or-append_right}
use Rattle.bus_memory.specs.declared.slot.SlotMemory.{SlotMemory}
use Rattle.bus_memory.specs.declared.slot.PlaceMemory.{PlaceMemory}
use Rattle.bus_memory.specs.declared.window.Window.{Window}
use Rattle.bus_memory.specs.declared.window.Window.TheVariants as windows
use Rattle.bus_memory.specs.Windows.{IsWindow}
use Rattle.bus_memory.specs.Memory.{Memory, new_memory, empty_slot, empty_place, slot_at, place_at, with_slot, with_place, with_armed, with_bytes, bytes_in, patch}
use Rattle.bus_memory.specs.Laws.{size, IsWhole, is_same, Change, Sets, Arms, after, AreChanges, covers, last_set, LastSetLaw, PartsLaw}

pub patch_length : (old : List ℕ) (at : ℕ) (bytes : List ℕ) → at + length bytes ≤ length old → length (patch old at bytes) ≡ length old
patch_length old at bytes h = simp (length-append, length-take, length-drop) (omega arith)

front_byte : (old : List ℕ) (at : ℕ) (bytes : List ℕ) (i : ℕ) → at + length bytes ≤ length old → i < at → get_or (patch old at bytes) i 0 ≡ get_or old i 0
front_byte old at bytes i h b =
    let l : length (take at old) ≡ at = simp length-take (omega arith) in
    get_or_append_left (take at old) (bytes ++ drop (at + length bytes) old) 0 i (omega arith) ∙ get_or-take at old i 0 b

middle_byte : (old : List ℕ) (at : ℕ) (bytes : List ℕ) (i : ℕ) → at + length bytes ≤ length old → at ≤ i → i < at + length bytes → get_or (patch old at bytes) i 0 ≡ get_or bytes (i - at) 0
middle_byte old at bytes i h b e =
    let l : length (take at old) ≡ at = simp length-take (omega arith) in
    get_or-append_right (take at old) (bytes ++ drop (at + length bytes) old) at i 0 l b ∙ get_or_append_left bytes (drop (at + length bytes) old) 0 (i - at) (omega arith)

back_byte : (old : List ℕ) (at : ℕ) (bytes : List ℕ) (i : ℕ) → at + length bytes ≤ length old → at + length bytes ≤ i → get_or (patch old at bytes) i 0 ≡ get_or old i 0
back_byte old at bytes i h e =
    let l : length (take at old) ≡ at = simp length-take (omega arith) in
    let n : at + length bytes + (i - at - length bytes) ≡ i = omega arith in
    get_or-append_right (take at old) (bytes ++ drop (at + length bytes) old) at i 0 l (omega arith)
    ∙ get_or-append_right bytes (drop (at + length bytes) old) (length bytes) (i - at) 0 refl (omega arith)
    ∙ get_or-drop (at + length bytes) old (i - at - length bytes) 0
    ∙ ap (λ (k : ℕ). get_or old k 0) n

byte_when : (old : List ℕ) (at : ℕ) (bytes : List ℕ) (i : ℕ) (from to : Bool) → at + length bytes ≤ length old → nat_le at i ≡ from → nat_lt i (at + length bytes) ≡ to → get_or (patch old at bytes) i 0 ≡ cond (from && to) (get_or bytes (i - at) 0) (get_or old i 0)
byte_when old at bytes i false to h f t = front_byte old at bytes i h (grind (arith, nat_tests))
byte_when old at bytes i true false h f t = back_byte old at bytes i h (grind (arith, nat_tests))
byte_when old at bytes i true true h f t = middle_byte old at bytes i h (grind (arith, nat_tests)) (grind (arith, nat_tests))

-- A byte of a patch is one that was written, where it stands in its range, and else the one before.
pub patch_byte : (old : List ℕ) (at : ℕ) (bytes : List ℕ) (i : ℕ) → at + length bytes ≤ length old → get_or (patch old at bytes) i 0 ≡ cond (nat_le at i && nat_lt i (at + length bytes)) (get_or bytes (i - at) 0) (get_or old i 0)
patch_byte old at bytes i h = byte_when old at bytes i _ _ h refl refl

pub slot_set : (m : Memory) (s t : ℕ) (slot : SlotMemory) → s < length m.slots → slot_at (with_slot m s slot) t ≡ cond (nat_eq t s) slot (slot_at m t)
slot_set m s t slot h = grind (arith, common_steps)

pub place_set : (m : Memory) (s t : ℕ) (place : PlaceMemory) → s < length m.places → place_at (with_place m s place) t ≡ cond (nat_eq t s) place (place_at m t)
place_set m s t place h = grind (arith, common_steps)

same_or : {A : Type 0} (b : Bool) (x : A) → cond b x x ≡ x
same_or true x = refl
same_or false x = refl

slot_field : (m : Memory) (s t : ℕ) (slot : SlotMemory) (f : SlotMemory → List ℕ) (g : List ℕ → List ℕ) (b : Bool) → nat_eq t s ≡ b → s < length m.slots → f slot ≡ g (f (slot_at m s)) → f (slot_at (with_slot m s slot) t) ≡ cond (nat_eq s t) (g (f (slot_at m t))) (f (slot_at m t))
slot_field m s t slot f g true e h i =
    let n : t ≡ s = grind (arith, nat_tests) in
    let k : nat_eq s t ≡ true = grind (arith, nat_tests) in
    let c : cond (nat_eq t s) slot (slot_at m t) ≡ slot = rw e refl in
    ap f (slot_set m s t slot h ∙ c) ∙ i ∙ rw (k, n) refl
slot_field m s t slot f g false e h i =
    let k : nat_eq s t ≡ false = grind (arith, nat_tests) in
    let c : cond (nat_eq t s) slot (slot_at m t) ≡ slot_at m t = rw e refl in
    ap f (slot_set m s t slot h ∙ c) ∙ rw k refl

place_field : (m : Memory) (s t : ℕ) (place : PlaceMemory) (f : PlaceMemory → List ℕ) (g : List ℕ → List ℕ) (b : Bool) → nat_eq t s ≡ b → s < length m.places → f place ≡ g (f (place_at m s)) → f (place_at (with_place m s place) t) ≡ cond (nat_eq s t) (g (f (place_at m t))) (f (place_at m t))
place_field m s t place f g true e h i =
    let n : t ≡ s = grind (arith, nat_tests) in
    let k : nat_eq s t ≡ true = grind (arith, nat_tests) in
    let c : cond (nat_eq t s) place (place_at m t) ≡ place = rw e refl in
    ap f (place_set m s t place h ∙ c) ∙ i ∙ rw (k, n) refl
place_field m s t place f g false e h i =
    let k : nat_eq s t ≡ false = grind (arith, nat_tests) in
    let c : cond (nat_eq t s) place (place_at m t) ≡ place_at m t = rw e refl in
    ap f (place_set m s t place h ∙ c) ∙ rw k refl

-- A field of a slot stays where another is set.
slot_keeps : (m : Memory) (s t : ℕ) (slot : SlotMemory) (f : SlotMemory → List ℕ) → s < length m.slots → f slot ≡ f (slot_at m s) → f (slot_at (with_slot m s slot) t) ≡ f (slot_at m t)
slot_keeps m s t slot f h i = slot_field m s t slot f (λ l. l) _ refl h i ∙ same_or (nat_eq s t) (f (slot_at m t))

place_keeps : (m : Memory) (s t : ℕ) (place : PlaceMemory) (f : PlaceMemory → List ℕ) → s < length m.places → f place ≡ f (place_at m s) → f (place_at (with_place m s place) t) ≡ f (place_at m t)
place_keeps m s t place f h i = place_field m s t place f (λ l. l) _ refl h i ∙ same_or (nat_eq s t) (f (place_at m t))

-- What a window holds after bytes were set in one.
pub window_set : (m : Memory) (window : Window) (at : ℕ) (bytes : List ℕ) (asked : Window) → length m.slots ≡ 32 → length m.places ≡ 2 → IsWindow window → bytes_in (with_bytes m window at bytes) asked ≡ cond (is_same window asked) (patch (bytes_in m asked) at bytes) (bytes_in m asked)
window_set m windows.Rom at bytes windows.Rom l p w = refl
window_set m (windows.Orb s) at bytes (windows.Orb t) l p w = slot_field m s t _ (λ slot. slot.orb) (λ old. patch old at bytes) _ refl (omega arith) refl
window_set m (windows.Orb s) at bytes (windows.Table t) l p w = slot_keeps m s t _ (λ slot. slot.table) (omega arith) refl
window_set m (windows.Orb s) at bytes (windows.Buffer t) l p w = slot_keeps m s t _ (λ slot. slot.buffer) (omega arith) refl
window_set m (windows.Table s) at bytes (windows.Table t) l p w = slot_field m s t _ (λ slot. slot.table) (λ old. patch old at bytes) _ refl (omega arith) refl
window_set m (windows.Table s) at bytes (windows.Orb t) l p w = slot_keeps m s t _ (λ slot. slot.orb) (omega arith) refl
window_set m (windows.Table s) at bytes (windows.Buffer t) l p w = slot_keeps m s t _ (λ slot. slot.buffer) (omega arith) refl
window_set m (windows.Buffer s) at bytes (windows.Buffer t) l p w = slot_field m s t _ (λ slot. slot.buffer) (λ old. patch old at bytes) _ refl (omega arith) refl
window_set m (windows.Buffer s) at bytes (windows.Orb t) l p w = slot_keeps m s t _ (λ slot. slot.orb) (omega arith) refl
window_set m (windows.Buffer s) at bytes (windows.Table t) l p w = slot_keeps m s t _ (λ slot. slot.table) (omega arith) refl
window_set m (windows.Management s) at bytes (windows.Management t) l p w = place_field m s t _ (λ place. place.orb) (λ old. patch old at bytes) _ refl (omega arith) refl
window_set m (windows.Management s) at bytes (windows.Response t) l p w = place_keeps m s t _ (λ place. place.response) (omega arith) refl
window_set m (windows.Response s) at bytes (windows.Response t) l p w = place_field m s t _ (λ place. place.response) (λ old. patch old at bytes) _ refl (omega arith) refl
window_set m (windows.Response s) at bytes (windows.Management t) l p w = place_keeps m s t _ (λ place. place.orb) (omega arith) refl
window_set m _ at bytes _ l p w = refl

pub armed_keeps : (m : Memory) (s : ℕ) (armed : Bool) (asked : Window) → length m.slots ≡ 32 → s < 32 → bytes_in (with_armed m s armed) asked ≡ bytes_in m asked
armed_keeps m s armed (windows.Orb t) l h = slot_keeps m s t _ (λ slot. slot.orb) (omega arith) refl
armed_keeps m s armed (windows.Table t) l h = slot_keeps m s t _ (λ slot. slot.table) (omega arith) refl
armed_keeps m s armed (windows.Buffer t) l h = slot_keeps m s t _ (λ slot. slot.buffer) (omega arith) refl
armed_keeps m s armed _ l h = refl

pub slots_set : (m : Memory) (window : Window) (at : ℕ) (bytes : List ℕ) → length (with_bytes m window at bytes).slots ≡ length m.slots
slots_set m windows.Rom at bytes = refl
slots_set m (windows.Management s) at bytes = refl
slots_set m (windows.Response s) at bytes = refl
slots_set m (windows.Orb s) at bytes = length-set m.slots s _
slots_set m (windows.Table s) at bytes = length-set m.slots s _
slots_set m (windows.Buffer s) at bytes = length-set m.slots s _

pub places_set : (m : Memory) (window : Window) (at : ℕ) (bytes : List ℕ) → length (with_bytes m window at bytes).places ≡ length m.places
places_set m (windows.Management s) at bytes = length-set m.places s _
places_set m (windows.Response s) at bytes = length-set m.places s _
places_set m windows.Rom at bytes = refl
places_set m (windows.Orb s) at bytes = refl
places_set m (windows.Table s) at bytes = refl
places_set m (windows.Buffer s) at bytes = refl

rom_set : (m : Memory) (window : Window) (at : ℕ) (bytes : List ℕ) → at + length bytes ≤ size m window → length (with_bytes m window at bytes).rom ≡ length m.rom
rom_set m windows.Rom at bytes h = patch_length m.rom at bytes h
rom_set m (windows.Management s) at bytes h = refl
rom_set m (windows.Response s) at bytes h = refl
rom_set m (windows.Orb s) at bytes h = refl
rom_set m (windows.Table s) at bytes h = refl
rom_set m (windows.Buffer s) at bytes h = refl

size_same : (m n : Memory) (asked : Window) → length n.rom ≡ length m.rom → size n asked ≡ size m asked
size_same m n windows.Rom e = e
size_same m n (windows.Management s) e = refl
size_same m n (windows.Response s) e = refl
size_same m n (windows.Orb s) e = refl
size_same m n (windows.Table s) e = refl
size_same m n (windows.Buffer s) e = refl

same_size : (m : Memory) (window asked : Window) → is_same window asked ≡ true → size m window ≡ size m asked
same_size m windows.Rom windows.Rom e = refl
same_size m (windows.Orb s) (windows.Orb t) e = refl
same_size m (windows.Table s) (windows.Table t) e = refl
same_size m (windows.Buffer s) (windows.Buffer t) e = refl
same_size m (windows.Management s) (windows.Management t) e = refl
same_size m (windows.Response s) (windows.Response t) e = refl
same_size m _ _ e = cc

patched_length : (b : Bool) (m : Memory) (window asked : Window) (at : ℕ) (bytes : List ℕ) → IsWhole m → is_same window asked ≡ b → at + length bytes ≤ size m window → length (cond b (patch (bytes_in m asked) at bytes) (bytes_in m asked)) ≡ size m asked
patched_length true m window asked at bytes whole e h =
    let i = same_size m window asked e in
    let s = whole.sizes asked in
    patch_length (bytes_in m asked) at bytes (omega arith) ∙ s
patched_length false m window asked at bytes whole e h = whole.sizes asked

-- Every window keeps its length.
pub whole_set : (m : Memory) (window : Window) (at : ℕ) (bytes : List ℕ) → IsWhole m → IsWindow window → at + length bytes ≤ size m window → IsWhole (with_bytes m window at bytes)
whole_set m window at bytes whole w h = record {
  slots = slots_set m window at bytes ∙ whole.slots;
  places = places_set m window at bytes ∙ whole.places;
  sizes = λ asked.
      ap (λ (l : List ℕ). length l) (window_set m window at bytes asked whole.slots whole.places w)
      ∙ patched_length _ m window asked at bytes whole refl h
      ∙ sym (size_same m (with_bytes m window at bytes) asked (rom_set m window at bytes h));
}

pub whole_armed : (m : Memory) (s : ℕ) (armed : Bool) → IsWhole m → s < 32 → IsWhole (with_armed m s armed)
whole_armed m s armed whole h = record {
  slots = length-set m.slots s _ ∙ whole.slots;
  places = whole.places;
  sizes = λ asked.
      ap (λ (l : List ℕ). length l) (armed_keeps m s armed asked whole.slots h)
      ∙ whole.sizes asked ∙ sym (size_same m (with_armed m s armed) asked refl);
}

-- Sizes stay over every list of changes.
record Stays (m n : Memory) : Type 0 where
  whole : IsWhole n
  rom : length n.rom ≡ length m.rom

set_stays : (m n : Memory) (window : Window) (at : ℕ) (bytes : List ℕ) → Stays m n → IsWindow window → at + length bytes ≤ size m window → Stays m (with_bytes n window at bytes)
set_stays m n window at bytes s w h =
    let e = size_same m n window s.rom in
    let f : at + length bytes ≤ size n window = omega arith in
    record { whole = whole_set n window at bytes s.whole w f; rom = rom_set n window at bytes f ∙ s.rom }

after_stays : (m : Memory) (changes : List Change) → IsWhole m → AreChanges changes m → Stays m (after changes m)
after_stays m [] whole h = record { whole = whole; rom = refl }
after_stays m (Sets window at bytes ∷ earlier) whole h =
    set_stays m (after earlier m) window at bytes (after_stays m earlier whole h.2) h.0 h.1
after_stays m (Arms slot armed ∷ earlier) whole h =
    let s = after_stays m earlier whole h.1 in
    record { whole = whole_armed (after earlier m) slot armed s.whole h.0; rom = s.rom }

byte_in : (b : Bool) (old : List ℕ) (at : ℕ) (bytes : List ℕ) (i : ℕ) → (b ≡ true → at + length bytes ≤ length old) → get_or (cond b (patch old at bytes) old) i 0 ≡ cond (b && (nat_le at i && nat_lt i (at + length bytes))) (get_or bytes (i - at) 0) (get_or old i 0)
byte_in true old at bytes i h = patch_byte old at bytes i (h refl)
byte_in false old at bytes i h = refl

byte_set : (m n : Memory) (window : Window) (at : ℕ) (bytes : List ℕ) (asked : Window) (i : ℕ) → Stays m n → IsWindow window → at + length bytes ≤ size m window → get_or (bytes_in (with_bytes n window at bytes) asked) i 0 ≡ cond (covers window at bytes asked i) (get_or bytes (i - at) 0) (get_or (bytes_in n asked) i 0)
byte_set m n window at bytes asked i s w h =
    let fits : is_same window asked ≡ true → at + length bytes ≤ length (bytes_in n asked) =
    λ (e : is_same window asked ≡ true). let f = size_same m n window s.rom in let g = same_size n window asked e in let k = s.whole.sizes asked in omega arith in
    ap (λ (l : List ℕ). get_or l i 0) (window_set n window at bytes asked s.whole.slots s.whole.places w)
    ∙ byte_in (is_same window asked) (bytes_in n asked) at bytes i fits

last_set_stands : (m : Memory) (changes : List Change) (asked : Window) (i : ℕ) → IsWhole m → AreChanges changes m → IsWindow asked → i < size m asked → get_or (bytes_in (after changes m) asked) i 0 ≡ last_set changes m asked i
last_set_stands m [] window i whole h w b = refl
last_set_stands m (Sets window at bytes ∷ earlier) asked i whole h w b =
    byte_set m (after earlier m) window at bytes asked i (after_stays m earlier whole h.2) h.0 h.1
    ∙ ap (λ (x : ℕ). cond (covers window at bytes asked i) (get_or bytes (i - at) 0) x) (last_set_stands m earlier asked i whole h.2 w b)
last_set_stands m (Arms slot armed ∷ earlier) asked i whole h w b =
    ap (λ (l : List ℕ). get_or l i 0) (armed_keeps (after earlier m) slot armed asked (after_stays m earlier whole h.1).whole.slots h.0)
    ∙ last_set_stands m earlier asked i whole h.1 w b

pub replicated : {A : Type 0} (n i : ℕ) (a : A) → get_or (replicate n a) i a ≡ a
replicated zero i a = refl
replicated (suc n) zero a = refl
replicated (suc n) (suc i) a = replicated n i a

new_sizes : (quads : List ℕ) (asked : Window) → length (bytes_in (new_memory quads) asked) ≡ size (new_memory quads) asked
unfolding new_memory empty_slot empty_place
new_sizes quads windows.Rom = refl
new_sizes quads (windows.Orb t) = ap (λ (slot : SlotMemory). length slot.orb) (replicated 32 t empty_slot) ∙ length-replicate {A = ℕ} 32 0
new_sizes quads (windows.Table t) = ap (λ (slot : SlotMemory). length slot.table) (replicated 32 t empty_slot) ∙ length-replicate {A = ℕ} 512 0
new_sizes quads (windows.Buffer t) = ap (λ (slot : SlotMemory). length slot.buffer) (replicated 32 t empty_slot) ∙ length-replicate {A = ℕ} 32768 0
new_sizes quads (windows.Management t) = ap (λ (place : PlaceMemory). length place.orb) (replicated 2 t empty_place) ∙ length-replicate {A = ℕ} 32 0
new_sizes quads (windows.Response t) = ap (λ (place : PlaceMemory). length place.response) (replicated 2 t empty_place) ∙ length-replicate {A = ℕ} 256 0

new_whole : (quads : List ℕ) → IsWhole (new_memory quads)
unfolding new_memory
new_whole quads = record { slots = length-replicate 32 empty_slot; places = length-replicate 2 empty_place; sizes = new_sizes quads }

new_slot : (quads : List ℕ) (slot : ℕ) → slot_at (new_memory quads) slot ≡ empty_slot
unfolding new_memory
new_slot quads slot = replicated 32 slot empty_slot

none_armed : empty_slot.is_armed ≡ false
unfolding empty_slot
none_armed = refl

pub parts_law : PartsLaw
parts_law = record {
  new = new_slot;
  free = none_armed;
  set = λ m window at bytes asked whole w. window_set m window at bytes asked whole.slots whole.places w;
  armed = λ m slot armed asked whole h. armed_keeps m slot armed asked whole.slots h;
  whole_set = whole_set;
  whole_armed = whole_armed;
}

pub last_set_law : LastSetLaw
last_set_law = record {
  new = new_whole;
  last = last_set_stands;
}
