-- Bytes that are written quadlet by quadlet.
use Rattle.std.proofs.Common.{arith, ◌≡◌, refl, sym, ◌∙◌, ap, ℕ, zero, suc, ◌+◌, ◌-◌, ◌*◌, ◌^◌, ◌<◌, ◌≤◌, List, [], ◌∷◌, ◌++◌, length, take, drop, get_or, append_assoc, add-zero, length-append, length-take}
use Rattle.std.proofs.Math.ListN.{set}
use Rattle.std.proofs.Math.Seq.{drop-append_seam, take-append_seam}
use Rattle.std.proofs.lemmas.List.{set-get_or, get_or-set_same, take-append-drop, drop-drop, drop_all, take_all, append-nil}
use Rattle.byteorder.specs.Endian.{big_bytes}
use Rattle.bus_memory.specs.declared.slot.SlotMemory.{SlotMemory}
use Rattle.bus_memory.specs.declared.window.Window.{Window}
use Rattle.bus_memory.specs.declared.window.Window.TheVariants as windows
use Rattle.bus_memory.specs.Windows.{start}
use Rattle.bus_memory.specs.Memory.{Memory, empty_slot, slot_at, with_slot, with_bytes, patch}
use Rattle.bus_memory.specs.Laws.{IsWhole}
use Rattle.orb_list.specs.Layout.{IsSlotWindow, behind, slot_size, table_bytes}

-- Nothing written is no change, and what is written behind other bytes joins them.
pub patch_none : (old : List ℕ) (n : ℕ) → patch old n [] ≡ old
patch_none old n = ap (λ (k : ℕ). take n old ++ drop k old) (add-zero n) ∙ take-append-drop n old

front_of : (old xs : List ℕ) (n : ℕ) → n + length xs ≤ length old → take (n + length xs) (patch old n xs) ≡ take n old ++ xs
front_of old xs n h =
    let l : length (take n old ++ xs) ≡ n + length xs = simp (length-append, length-take) (omega arith) in
    ap (λ (l : List ℕ). take (n + length xs) l) (sym (append_assoc (take n old) xs (drop (n + length xs) old)))
    ∙ ap (λ (k : ℕ). take k ((take n old ++ xs) ++ drop (n + length xs) old)) (sym l)
    ∙ take-append_seam (take n old ++ xs) (drop (n + length xs) old)

back_of : (old xs : List ℕ) (n m : ℕ) → n + length xs ≤ length old → drop (n + length xs + m) (patch old n xs) ≡ drop (n + length xs + m) old
back_of old xs n m h =
    let l : length (take n old ++ xs) ≡ n + length xs = simp (length-append, length-take) (omega arith) in
    sym (drop-drop m (n + length xs) (patch old n xs))
    ∙ ap (λ (l : List ℕ). drop m (drop (n + length xs) l)) (sym (append_assoc (take n old) xs (drop (n + length xs) old)))
    ∙ ap (λ (k : ℕ). drop m (drop k ((take n old ++ xs) ++ drop (n + length xs) old))) (sym l)
    ∙ ap (λ (l : List ℕ). drop m l) (drop-append_seam (take n old ++ xs) (drop (n + length xs) old))
    ∙ drop-drop m (n + length xs) old

pub patch_behind : (old xs ys : List ℕ) (n : ℕ) → n + length xs ≤ length old → patch (patch old n xs) (n + length xs) ys ≡ patch old n (xs ++ ys)
patch_behind old xs ys n h =
    let e : n + length xs + length ys ≡ n + length (xs ++ ys) = omega (arith, length-append xs ys) in
    ap (λ (l : List ℕ). l ++ (ys ++ drop (n + length xs + length ys) (patch old n xs))) (front_of old xs n h)
    ∙ ap (λ (l : List ℕ). (take n old ++ xs) ++ (ys ++ l)) (back_of old xs n (length ys) h)
    ∙ append_assoc (take n old) xs (ys ++ drop (n + length xs + length ys) old)
    ∙ ap (λ (l : List ℕ). take n old ++ l) (sym (append_assoc xs ys (drop (n + length xs + length ys) old)))
    ∙ ap (λ (k : ℕ). take n old ++ ((xs ++ ys) ++ drop k old)) e

-- Setting a slot twice.
set_twice : {A : Type 0} (l : List A) (i : ℕ) (a b : A) → set (set l i a) i b ≡ set l i b
set_twice [] i a b = refl
set_twice (x ∷ l) zero a b = refl
set_twice (x ∷ l) (suc i) a b = ap (λ (r : List _). x ∷ r) (set_twice l i a b)

slot_twice : (m : Memory) (k : ℕ) (a b : SlotMemory) → with_slot (with_slot m k a) k b ≡ with_slot m k b
slot_twice m k a b = ap (λ (l : List SlotMemory). record m { slots = l }) (set_twice m.slots k a b)

pub slot_same : (m : Memory) (k : ℕ) (a : SlotMemory) → k < length m.slots → slot_at (with_slot m k a) k ≡ a
slot_same m k a h = get_or-set_same m.slots k a empty_slot h

slot_stays : (m : Memory) (k : ℕ) → with_slot m k (slot_at m k) ≡ m
slot_stays m k = ap (λ (l : List SlotMemory). record m { slots = l }) (set-get_or m.slots k empty_slot)

pub none_written : (m : Memory) (window : Window) (n : ℕ) → IsSlotWindow window → with_bytes m window n [] ≡ m
none_written m (windows.Orb k) n w = ap (λ (l : List ℕ). with_slot m k (record (slot_at m k) { orb = l })) (patch_none (slot_at m k).orb n) ∙ slot_stays m k
none_written m (windows.Table k) n w = ap (λ (l : List ℕ). with_slot m k (record (slot_at m k) { table = l })) (patch_none (slot_at m k).table n) ∙ slot_stays m k
none_written m windows.Rom n w = absurd w
none_written m (windows.Buffer k) n w = absurd w
none_written m (windows.Management k) n w = absurd w
none_written m (windows.Response k) n w = absurd w

pub written_behind : (m : Memory) (window : Window) (n : ℕ) (xs ys : List ℕ) → IsWhole m → IsSlotWindow window → n + length xs ≤ slot_size window → with_bytes (with_bytes m window n xs) window (n + length xs) ys ≡ with_bytes m window n (xs ++ ys)
written_behind m (windows.Orb k) n xs ys whole w h =
    let l = whole.slots in
    let s = whole.sizes (windows.Orb k) in
    let x : SlotMemory = record (slot_at m k) { orb = patch (slot_at m k).orb n xs } in
    ap (λ (a : SlotMemory). with_slot (with_slot m k x) k (record a { orb = patch a.orb (n + length xs) ys })) (slot_same m k x (omega arith))
    ∙ slot_twice m k x (record x { orb = patch x.orb (n + length xs) ys })
    ∙ ap (λ (l : List ℕ). with_slot m k (record (slot_at m k) { orb = l })) (patch_behind (slot_at m k).orb xs ys n (omega arith))
written_behind m (windows.Table k) n xs ys whole w h =
    let l = whole.slots in
    let s = whole.sizes (windows.Table k) in
    let x : SlotMemory = record (slot_at m k) { table = patch (slot_at m k).table n xs } in
    ap (λ (a : SlotMemory). with_slot (with_slot m k x) k (record a { table = patch a.table (n + length xs) ys })) (slot_same m k x (omega arith))
    ∙ slot_twice m k x (record x { table = patch x.table (n + length xs) ys })
    ∙ ap (λ (l : List ℕ). with_slot m k (record (slot_at m k) { table = l })) (patch_behind (slot_at m k).table xs ys n (omega arith))
written_behind m windows.Rom n xs ys whole w h = absurd w
written_behind m (windows.Buffer k) n xs ys whole w h = absurd w
written_behind m (windows.Management k) n xs ys whole w h = absurd w
written_behind m (windows.Response k) n xs ys whole w h = absurd w

-- An ORB that fills its room.
pub orb_alone : (out bytes room : List ℕ) → out ≡ bytes ++ drop 32 room → length room ≡ 32 → out ≡ bytes
orb_alone out bytes room e l = e ∙ ap (λ (r : List ℕ). bytes ++ r) (drop_all 32 room (omega arith)) ∙ append-nil bytes

-- The elements of a page table, one behind the other.
pub element_behind : (m : Memory) (k n at count value : ℕ) (rest : List ℕ) → IsWhole m → k < 32 → 8 * n + 8 ≤ 512 → value ≡ start (windows.Buffer k) + at →
    with_bytes (with_bytes (with_bytes m (windows.Table k) (8 * n) (big_bytes 4 (count * 2 ^ 16))) (windows.Table k) (8 * n + 4) (big_bytes 4 value)) (windows.Table k) (8 * (n + 1)) rest ≡ with_bytes m (windows.Table k) (8 * n) (big_bytes 4 (count * 2 ^ 16) ++ (big_bytes 4 (start (windows.Buffer k) + at) ++ rest))
element_behind m k n at count value rest whole s h e =
    let x = big_bytes 4 (count * 2 ^ 16) in
    let y = big_bytes 4 value in
    let z : 8 * (n + 1) ≡ 8 * n + length (x ++ y) = omega arith in
    ap (λ (a : Memory). with_bytes a (windows.Table k) (8 * (n + 1)) rest) (written_behind m (windows.Table k) (8 * n) x y whole s (omega arith))
    ∙ ap (λ (i : ℕ). with_bytes (with_bytes m (windows.Table k) (8 * n) (x ++ y)) (windows.Table k) i rest) z
    ∙ written_behind m (windows.Table k) (8 * n) (x ++ y) rest whole s (omega arith)
    ∙ ap (λ (i : ℕ). with_bytes m (windows.Table k) (8 * n) (x ++ (big_bytes 4 i ++ rest))) e

-- The first of some segments, and the others.
pub first_apart : (segments : List ℕ) → 1 ≤ length segments → segments ≡ get_or segments 0 0 ∷ take (length segments - 1) (drop 1 segments)
first_apart [] h = absurd (omega arith)
first_apart (x ∷ xs) h = ap (λ (l : List ℕ). x ∷ l) (sym (take_all _ xs (omega arith)))

pub table_step : (m m1 m2 m3 : Memory) (k n at count first value next : ℕ) (segments rest : List ℕ) → IsWhole m → k < 32 → 8 * n + 8 ≤ 512 → m1 ≡ with_bytes m (windows.Table k) (8 * n) (big_bytes 4 first) → first ≡ count * 2 ^ 16 → m2 ≡ with_bytes m1 (windows.Table k) (8 * n + 4) (big_bytes 4 value) → value ≡ start (windows.Buffer k) + at → m3 ≡ with_bytes m2 (windows.Table k) (8 * (n + 1)) (table_bytes k next rest) → next ≡ behind at count → segments ≡ count ∷ rest
    → m3 ≡ with_bytes m (windows.Table k) (8 * n) (table_bytes k at segments)
table_step m m1 m2 m3 k n at count first value next segments rest whole s h e1 f e2 v e3 x a =
    let first_is = e1 ∙ ap (λ (i : ℕ). with_bytes m (windows.Table k) (8 * n) (big_bytes 4 i)) f in
    let both = e2 ∙ ap (λ (b : Memory). with_bytes b (windows.Table k) (8 * n + 4) (big_bytes 4 value)) first_is in
    e3
    ∙ ap (λ (b : Memory). with_bytes b (windows.Table k) (8 * (n + 1)) (table_bytes k next rest)) both
    ∙ element_behind m k n at count value (table_bytes k next rest) whole s h v
    ∙ ap (λ (i : ℕ). with_bytes m (windows.Table k) (8 * n) (big_bytes 4 (count * 2 ^ 16) ++ (big_bytes 4 (start (windows.Buffer k) + at) ++ table_bytes k i rest))) x
    ∙ ap (λ (l : List ℕ). with_bytes m (windows.Table k) (8 * n) (table_bytes k at l)) (sym a)
