-- A management ORB that is written quadlet by quadlet into its place.
use Rattle.std.proofs.Common.{arith, ◌≡◌, refl, sym, ◌∙◌, ap, ℕ, zero, suc, ◌∷◌, ◌+◌, ◌-◌, ◌<◌, ◌≤◌, List, [], ◌++◌, length, take, drop, get_or, length-drop, Option, Some}
use Rattle.std.proofs.Math.ListN.{set}
use Rattle.std.proofs.lemmas.List.{set-get_or, get_or-set_same, get_or-drop, take-append-drop, drop-drop, drop_all}
use Rattle.byteorder.specs.Endian.{big_bytes}
use Rattle.sbp_base.specs.Quadlets.{quad}
use Rattle.bus_memory.specs.declared.access.Spot.{Spot}
use Rattle.bus_memory.specs.declared.slot.PlaceMemory.{PlaceMemory}
use Rattle.bus_memory.specs.declared.window.Window.TheVariants as windows
use Rattle.bus_memory.specs.Windows.{start}
use Rattle.bus_memory.specs.Memory.{Memory, empty_place, place_at, with_place, with_bytes, patch}
use Rattle.bus_memory.specs.Access.{IsQuadlet, set_at, set_step, spot_of}
use Rattle.bus_memory.specs.Laws.{IsWhole, IsInside}
use Rattle.bus_memory.proofs.Found.{window_law}
use Rattle.bus_memory.proofs.Written.{whole_set}
use Rattle.orb_layout.specs.declared.management.ManagementOrb.{ManagementOrb}
use Rattle.orb_layout.specs.ManagementOrbs.{management_bytes}
use Rattle.orb_list.specs.Table.{SlotTable}
use Rattle.orb_list.specs.Holds.{HoldsSlots}
use Rattle.orb_layout.proofs.Spelled.{quad_spelled}
use Rattle.orb_list.proofs.Quads.{patch_none, patch_behind}
use Rattle.orb_list.proofs.Held.{armed_stays}

inside : (m : Memory) (place at offset : ℕ) → offset ≡ start (windows.Management place) + at → place < 2 → at + 4 ≤ 32 → IsInside m offset 4 (windows.Management place)
inside m place at offset e p h = record { exists = p; begins = omega arith; ends = omega arith }

here : (m : Memory) (place at offset : ℕ) → offset ≡ start (windows.Management place) + at → IsWhole m → place < 2 → at + 4 ≤ 32 → spot_of m offset 4 ≡ Some (record { window = windows.Management place; at = at })
here m place at offset e whole p h =
    let n : offset - start (windows.Management place) ≡ at = omega arith in
    window_law.found m offset 4 (windows.Management place) whole (omega arith) (inside m place at offset e p h) refl
    ∙ ap (λ (k : ℕ). Some (record { window = windows.Management place; at = k })) n

pub quad_is_own : (m : Memory) (place at offset : ℕ) → offset ≡ start (windows.Management place) + at → IsWhole m → place < 2 → at + 4 ≤ 32 → IsQuadlet m offset
quad_is_own m place at offset e whole p h = rw (here m place at offset e whole p h) tt

pub quad_is_set : (m : Memory) (place at value offset : ℕ) → offset ≡ start (windows.Management place) + at → IsWhole m → place < 2 → at + 4 ≤ 32 → set_step m offset value ≡ with_bytes m (windows.Management place) at (big_bytes 4 value)
quad_is_set m place at value offset e whole p h = ap (λ (s : Option Spot). set_at m value s) (here m place at offset e whole p h)

pub quad_whole : (m : Memory) (place at value : ℕ) → IsWhole m → place < 2 → at + 4 ≤ 32 → IsWhole (with_bytes m (windows.Management place) at (big_bytes 4 value))
quad_whole m place at value whole p h = whole_set m (windows.Management place) at (big_bytes 4 value) whole p (omega arith)

-- Setting a place twice.
set_twice : {A : Type 0} (l : List A) (i : ℕ) (a b : A) → set (set l i a) i b ≡ set l i b
set_twice [] i a b = refl
set_twice (x ∷ l) zero a b = refl
set_twice (x ∷ l) (suc i) a b = ap (λ (r : List _). x ∷ r) (set_twice l i a b)

place_twice : (m : Memory) (k : ℕ) (a b : PlaceMemory) → with_place (with_place m k a) k b ≡ with_place m k b
place_twice m k a b = ap (λ (l : List PlaceMemory). record m { places = l }) (set_twice m.places k a b)

place_same : (m : Memory) (k : ℕ) (a : PlaceMemory) → k < length m.places → place_at (with_place m k a) k ≡ a
place_same m k a h = get_or-set_same m.places k a empty_place h

place_stays : (m : Memory) (k : ℕ) → with_place m k (place_at m k) ≡ m
place_stays m k = ap (λ (l : List PlaceMemory). record m { places = l }) (set-get_or m.places k empty_place)

none_written : (m : Memory) (k n : ℕ) → with_bytes m (windows.Management k) n [] ≡ m
none_written m k n = ap (λ (l : List ℕ). with_place m k (record (place_at m k) { orb = l })) (patch_none (place_at m k).orb n) ∙ place_stays m k

written_behind : (m : Memory) (k n : ℕ) (xs ys : List ℕ) → IsWhole m → k < 2 → n + length xs ≤ 32 → with_bytes (with_bytes m (windows.Management k) n xs) (windows.Management k) (n + length xs) ys ≡ with_bytes m (windows.Management k) n (xs ++ ys)
written_behind m k n xs ys whole p h =
    let l = whole.places in
    let s = whole.sizes (windows.Management k) in
    let x : PlaceMemory = record (place_at m k) { orb = patch (place_at m k).orb n xs } in
    ap (λ (a : PlaceMemory). with_place (with_place m k x) k (record a { orb = patch a.orb (n + length xs) ys })) (place_same m k x (omega arith))
    ∙ place_twice m k x (record x { orb = patch x.orb (n + length xs) ys })
    ∙ ap (λ (l : List ℕ). with_place m k (record (place_at m k) { orb = l })) (patch_behind (place_at m k).orb xs ys n (omega arith))

-- An ORB that is written from a quadlet on is that quadlet, and the ORB from the next one on.
pub quad_behind : (m : Memory) (k at : ℕ) (bytes : List ℕ) → IsWhole m → k < 2 → length bytes ≡ 32 → at + 4 ≤ 32 → ((i : ℕ) → get_or bytes i 0 < 256) → with_bytes (with_bytes m (windows.Management k) at (big_bytes 4 (quad bytes at))) (windows.Management k) (at + 4) (drop (at + 4) bytes) ≡ with_bytes m (windows.Management k) at (drop at bytes)
quad_behind m k at bytes whole s l h small =
    let d : 4 ≤ length (drop at bytes) = simp length-drop (omega arith) in
    let q : big_bytes 4 (quad bytes at) ≡ take 4 (drop at bytes) = quad_spelled (drop at bytes) d (λ i. rw (get_or-drop at bytes i 0) (small (at + i))) in
    let r : drop (at + 4) bytes ≡ drop 4 (drop at bytes) = sym (drop-drop 4 at bytes) in
    written_behind m k at (big_bytes 4 (quad bytes at)) (drop (at + 4) bytes) whole s h
    ∙ ap (λ (l : List ℕ). with_bytes m (windows.Management k) at (l ++ drop (at + 4) bytes)) q
    ∙ ap (λ (l : List ℕ). with_bytes m (windows.Management k) at (take 4 (drop at bytes) ++ l)) r
    ∙ ap (λ (l : List ℕ). with_bytes m (windows.Management k) at l) (take-append-drop 4 (drop at bytes))

pub orb_end : (m : Memory) (k at : ℕ) (bytes : List ℕ) → length bytes ≡ 32 → 32 ≤ at → m ≡ with_bytes m (windows.Management k) at (drop at bytes)
orb_end m k at bytes l h =
    sym (ap (λ (l : List ℕ). with_bytes m (windows.Management k) at l) (drop_all at bytes (omega arith)) ∙ none_written m k at)

-- A memory that holds slots does so with a management ORB in its place.
pub managed_held : (s : SlotTable) (m : Memory) (place : ℕ) (orb : ManagementOrb) → place < 2 → HoldsSlots s.slots m → HoldsSlots s.slots (with_bytes m (windows.Management place) 0 (management_bytes orb))
managed_held s m place orb p h = record {
  whole = whole_set m (windows.Management place) 0 (management_bytes orb) h.whole p (omega arith);
  armed = λ number b. armed_stays m (windows.Management place) 0 (management_bytes orb) number h.whole.slots p ∙ h.armed number b;
}
