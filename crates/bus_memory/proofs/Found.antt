-- The window of an address.
use Rattle.std.proofs.Common.{arith, ◌≡◌, ◌∙◌, refl, inl, inr, [], ℕ, ◌+◌, ◌-◌, ◌*◌, ◌/◌, ◌%◌, ◌^◌, ◌<◌, ◌≤◌, ◌==◌, ◌&&◌, ◌||◌, ◌⊎◌, nat_le, Bool, true, false, cond, length, take, drop, List, sym, ap, subst, Option, Some, None, Err}
use Rattle.std.proofs.lemmas.Bool.Decides.{nat_tests}
use Rattle.bus_memory.specs.declared.window.Window.{Window}
use Rattle.bus_memory.specs.declared.window.Window.TheVariants as windows
use Rattle.bus_memory.specs.declared.access.Access.TheVariants.{Read}
use Rattle.bus_memory.specs.declared.access.Rcode.TheVariants.{TypeError}
use Rattle.bus_memory.specs.declared.access.Spot.{Spot}
use Rattle.bus_memory.specs.Windows.{IsWindow, IfShare, start, within, window_at, slot_from, slot_of, is_fifo}
use Rattle.bus_memory.specs.Memory.{Memory, new_memory, slot_at, bytes_in}
use Rattle.bus_memory.specs.Access.{is_open, spot_in, spot_of, judged, judged_at, read_at, read_step, IsOwnSpot, set_at}
use Rattle.bus_memory.specs.Laws.{size, IsWhole, IsInside, IsFound, WindowLaw, FifoLaw, SlotOfLaw, OwnLaw}

-- An address inside a window has it as the window of its share.
pub window_here : (m : Memory) (offset : ℕ) (window : Window) → IsWindow window → start window ≤ offset → offset < start window + size m window → window_at offset ≡ Some window
unfolding window_at
window_here m offset windows.Rom w s e = grind (arith, nat_tests)
window_here m offset (windows.Orb slot) w s e = let n : (offset - 0x1000_0000) / 0x40 ≡ slot = omega arith in grind (arith, nat_tests)
window_here m offset (windows.Table slot) w s e = let n : (offset - 0x1010_0000) / 0x200 ≡ slot = omega arith in grind (arith, nat_tests)
window_here m offset (windows.Buffer slot) w s e = let n : (offset - 0x1100_0000) / 0x8000 ≡ slot = omega arith in grind (arith, nat_tests)
window_here m offset (windows.Management place) w s e = let n : (offset - 0x1200_0000) / 0x20 ≡ place = omega arith in grind (arith, nat_tests)
window_here m offset (windows.Response place) w s e = let n : (offset - 0x1200_1000) / 0x100 ≡ place = omega arith in grind (arith, nat_tests)

-- The window of a share exists and begins before.
pub window_share : (offset : ℕ) → IfShare offset (window_at offset)
unfolding window_at
window_share offset = grind (arith, nat_tests)

found_at : (m : Memory) (offset count : ℕ) (window : Window) → IsWhole m → IsInside m offset count window → is_open m window ≡ true → spot_in m offset count (Some window) ≡ Some (record { window = window; at = offset - start window })
found_at m offset count window whole h o =
    let b = h.begins in
    let e = h.ends in
    let s = whole.sizes window in
    let t : nat_le (offset - start window + count) (length (bytes_in m window)) ≡ true = grind (arith, nat_tests) in
    rw (o, t) refl

inside_when : (m : Memory) (offset count : ℕ) (window : Window) (b : Bool) → IsWhole m → IfShare offset (Some window) → is_open m window && nat_le (offset - start window + count) (length (bytes_in m window)) ≡ b → IsFound m offset count (cond b (Some (record { window = window; at = offset - start window })) None)
inside_when m offset count window false whole h e = tt
inside_when m offset count window true whole h e =
    let s = whole.sizes window in
    let b : start window ≤ offset = h.1 in
    let o : is_open m window ≡ true = grind (arith, nat_tests) in
    let f : offset - start window + count ≤ length (bytes_in m window) = grind (arith, nat_tests) in
    (record { exists = h.0; begins = b; ends = omega arith }, o, omega arith)

no_other_at : (m : Memory) (offset count : ℕ) (found : Option Window) → IsWhole m → IfShare offset found → IsFound m offset count (spot_in m offset count found)
no_other_at m offset count None whole h = tt
no_other_at m offset count (Some window) whole h = inside_when m offset count window _ whole h refl

-- An address is that of a FIFO.
abbrev IsPlaceFifo : ℕ → Type 0
IsPlaceFifo offset = (place : ℕ) × ((place < 2) × (offset ≡ 0x1200_2000 + 0x20 * place))

abbrev IsLoginFifo : ℕ → Type 0
IsLoginFifo offset = (login : ℕ) × ((login < 2 ^ 32) × (offset ≡ 0x1300_0000 + 0x20 * login))

fifo_named : (offset : ℕ) (first second login : Bool) → (offset == 0x1200_2000) ≡ first → (offset == 0x1200_2020) ≡ second → within 0x1300_0000 (0x1300_0000 + 0x20 * 2 ^ 32) offset && (offset % 0x20 == 0) ≡ login → first || second || login ≡ true → IsPlaceFifo offset ⊎ IsLoginFifo offset
fifo_named offset true second login f s l e = inl (0, (omega arith, grind (arith, nat_tests)))
fifo_named offset false true login f s l e = inl (1, (omega arith, grind (arith, nat_tests)))
fifo_named offset false false true f s l e =
    let low : 0x1300_0000 ≤ offset = grind (arith, nat_tests) in
    let high : offset < 0x1300_0000 + 0x20 * 2 ^ 32 = grind (arith, nat_tests) in
    let whole : offset % 0x20 ≡ 0 = grind (arith, nat_tests) in
    inr ((offset - 0x1300_0000) / 0x20, (omega arith, omega arith))
fifo_named offset false false false f s l e = cc

named_fifo : (offset : ℕ) → IsPlaceFifo offset ⊎ IsLoginFifo offset → is_fifo offset ≡ true
unfolding is_fifo
named_fifo offset (inl (place, h)) = let l = h.0 in let e = h.1 in grind (arith, nat_tests)
named_fifo offset (inr (login, h)) =
    let l = h.0 in
    let e = h.1 in
    let whole : offset % 0x20 ≡ 0 = omega arith in
    grind (arith, nat_tests)

fifo_is_named : (offset : ℕ) → is_fifo offset ≡ true → IsPlaceFifo offset ⊎ IsLoginFifo offset
unfolding is_fifo
fifo_is_named offset e = fifo_named offset _ _ _ refl refl refl e

pub fifo_law : FifoLaw
fifo_law offset = (fifo_is_named offset, named_fifo offset)

pub window_law : WindowLaw
unfolding spot_of
window_law = record {
  found = λ m offset count window whole some h o.
      let b = h.begins in
      let e = h.ends in
      rw (window_here m offset window h.exists b (omega arith)) (found_at m offset count window whole h o);
  no_other = λ m offset count whole. no_other_at m offset count (window_at offset) whole (window_share offset);
}

-- The slot whose ORB begins at an address.
orb_when : (offset k slot : ℕ) (b : Bool) → (offset == start (windows.Orb k)) ≡ b → k < 32 → cond b (Some k) None ≡ Some slot → (slot < 32) × (offset ≡ start (windows.Orb slot))
orb_when offset k slot false e h s = cc
orb_when offset k slot true e h s =
    let n : k ≡ slot = cc in
    let at : offset ≡ start (windows.Orb k) = grind (arith, nat_tests) in
    (omega arith, omega arith)

slot_is_from : (offset slot : ℕ) (found : Option Window) → IfShare offset found → slot_from offset found ≡ Some slot → (slot < 32) × (offset ≡ start (windows.Orb slot))
slot_is_from offset slot (Some (windows.Orb k)) h e = orb_when offset k slot _ refl h.0 e
slot_is_from offset slot _ h e = cc

slot_is : (offset slot : ℕ) → slot_of offset ≡ Some slot → (slot < 32) × (offset ≡ start (windows.Orb slot))
unfolding slot_of
slot_is offset slot e = slot_is_from offset slot (window_at offset) (window_share offset) e

slot_here : (offset slot : ℕ) → slot < 32 → offset ≡ start (windows.Orb slot) → slot_of offset ≡ Some slot
unfolding slot_of
slot_here offset slot h e =
    let same : (offset == start (windows.Orb slot)) ≡ true = grind (arith, nat_tests) in
    ap (λ (w : Option Window). slot_from offset w) (window_here (new_memory []) offset (windows.Orb slot) h (omega arith) (omega arith)) ∙ rw same refl

pub slot_of_law : SlotOfLaw
slot_of_law = record { begins = slot_is; found = λ slot h. slot_here (start (windows.Orb slot)) slot h refl }

-- A read from the start of an ORB on.
read_when : (m : Memory) (slot at : ℕ) (out : List ℕ) (refused inside : Bool) → at ≡ 0 → (read_at m out (cond refused (Err TypeError) (judged_at m Read (cond inside (Some (record { window = windows.Orb slot; at = at })) None)))).0 ≡ 0 → (read_at m out (cond refused (Err TypeError) (judged_at m Read (cond inside (Some (record { window = windows.Orb slot; at = at })) None)))).1 ≡ take (length out) (slot_at m slot).orb
read_when m slot at out true inside z e = absurd (omega arith)
read_when m slot at out false false z e = absurd (omega arith)
read_when m slot at out false true z e = ap (λ (n : ℕ). take (length out) (drop n (slot_at m slot).orb)) z

read_orb : (m : Memory) (slot : ℕ) (out : List ℕ) → slot < 32 → (read_step m (start (windows.Orb slot)) out).0 ≡ 0 → (read_step m (start (windows.Orb slot)) out).1 ≡ take (length out) (slot_at m slot).orb
unfolding judged spot_of
read_orb m slot out h =
    subst (λ (found : Option Window). (read_at m out (cond ((length out == 0) || is_fifo (start (windows.Orb slot))) (Err TypeError) (judged_at m Read (spot_in m (start (windows.Orb slot)) (length out) found)))).0 ≡ 0 → (read_at m out (cond ((length out == 0) || is_fifo (start (windows.Orb slot))) (Err TypeError) (judged_at m Read (spot_in m (start (windows.Orb slot)) (length out) found)))).1 ≡ take (length out) (slot_at m slot).orb)
    (sym (window_here m (start (windows.Orb slot)) (windows.Orb slot) h (omega arith) (omega arith)))
    (read_when m slot (start (windows.Orb slot) - start (windows.Orb slot)) out _ _ (omega arith))

quadlet_found : (m : Memory) (offset place : ℕ) → IsWhole m → IsInside m offset 4 (windows.Management place) → spot_of m offset 4 ≡ Some (record { window = windows.Management place; at = offset - start (windows.Management place) })
quadlet_found m offset place whole i = window_law.found m offset 4 (windows.Management place) whole (omega arith) i refl

pub own_law : OwnLaw
own_law = record {
  read = read_orb;
  quadlet = λ m offset place whole i. subst (λ (found : Option Spot). IsOwnSpot found) (sym (quadlet_found m offset place whole i)) tt;
  set = λ m offset place value whole i. ap (λ (found : Option Spot). set_at m value found) (quadlet_found m offset place whole i);
}
