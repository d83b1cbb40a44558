-- Quadlets of slots, at their addresses.
use Rattle.std.proofs.Common.{arith, ◌≡◌, refl, ◌∙◌, ap, ℕ, ◌+◌, ◌-◌, ◌<◌, ◌≤◌, true, false, List, [], ◌∷◌, length, take, drop, Option, Some, Result, Ok}
use Rattle.std.proofs.lemmas.Bool.Decides.{nat_tests}
use Rattle.byteorder.specs.Endian.{big_bytes, big_number}
use Rattle.sbp_base.specs.Quadlets.{quad}
use Rattle.bus_memory.specs.declared.access.Spot.{Spot}
use Rattle.bus_memory.specs.declared.access.Access.TheVariants.{Read}
use Rattle.bus_memory.specs.declared.access.Rcode.{Rcode}
use Rattle.bus_memory.specs.declared.window.Window.{Window}
use Rattle.bus_memory.specs.declared.window.Window.TheVariants as windows
use Rattle.bus_memory.specs.Windows.{IsWindow, start, is_fifo}
use Rattle.bus_memory.specs.Memory.{Memory, slot_at, bytes_in, with_bytes}
use Rattle.bus_memory.specs.Access.{is_open, judged, judged_at, read_at, read_step, spot_of}
use Rattle.bus_memory.specs.Laws.{size, IsWhole, IsInside}
use Rattle.bus_memory.proofs.Found.{window_law}
use Rattle.bus_memory.proofs.Written.{whole_set}
use Rattle.orb_list.specs.Layout.{IsSlotWindow, slot_size}

pub slot_window : (window : Window) → IsSlotWindow window → IsWindow window
slot_window (windows.Orb slot) w = w
slot_window (windows.Table slot) w = w
slot_window windows.Rom w = absurd w
slot_window (windows.Buffer slot) w = absurd w
slot_window (windows.Management place) w = absurd w
slot_window (windows.Response place) w = absurd w

slot_sizes : (m : Memory) (window : Window) → IsSlotWindow window → size m window ≡ slot_size window
slot_sizes m (windows.Orb slot) w = refl
slot_sizes m (windows.Table slot) w = refl
slot_sizes m windows.Rom w = absurd w
slot_sizes m (windows.Buffer slot) w = absurd w
slot_sizes m (windows.Management place) w = absurd w
slot_sizes m (windows.Response place) w = absurd w

-- A quadlet fits into a window of a slot.
pub quad_fits : (m : Memory) (window : Window) (at : ℕ) → IsWhole m → IsSlotWindow window → at + 4 ≤ slot_size window → at + 4 ≤ length (bytes_in m window)
quad_fits m window at whole w h =
    let l = whole.sizes window in
    let s = slot_sizes m window w in
    omega (arith, l, s)

-- A quadlet of an open window of a slot is found there.
pub spot_here : (m : Memory) (window : Window) (at : ℕ) → IsWhole m → IsSlotWindow window → is_open m window ≡ true → at + 4 ≤ slot_size window → spot_of m (start window + at) 4 ≡ Some (record { window = window; at = at })
spot_here m window at whole w o h =
    let s = slot_sizes m window w in
    let i : IsInside m (start window + at) 4 window = record { exists = slot_window window w; begins = omega arith; ends = omega arith } in
    let n : start window + at - start window ≡ at = omega arith in
    window_law.found m (start window + at) 4 window whole (omega arith) i o ∙ ap (λ (k : ℕ). Some (record { window = window; at = k })) n

-- The ORB of an armed slot is read.
no_fifo : (slot at : ℕ) → slot < 32 → at + 4 ≤ 32 → is_fifo (start (windows.Orb slot) + at) ≡ false
unfolding is_fifo
no_fifo slot at s h = grind (arith, nat_tests)

pub read_here : (m : Memory) (slot at : ℕ) → IsWhole m → slot < 32 → (slot_at m slot).is_armed ≡ true → at + 4 ≤ 32 → judged m Read (start (windows.Orb slot) + at) 4 ≡ Ok (record { window = windows.Orb slot; at = at })
unfolding judged
read_here m slot at whole s a h =
    rw (no_fifo slot at s h) (ap (λ (found : Option Spot). judged_at m Read found) (spot_here m (windows.Orb slot) at whole s a h))

pub slot_whole : (m : Memory) (window : Window) (at value : ℕ) → IsWhole m → IsSlotWindow window → at + 4 ≤ slot_size window → IsWhole (with_bytes m window at (big_bytes 4 value))
slot_whole m window at value whole w h =
    let s = slot_sizes m window w in
    whole_set m window at (big_bytes 4 value) whole (slot_window window w) (omega arith)

-- What is read of an ORB, as a quadlet.
first_quad : (xs : List ℕ) → big_number 4 (take 4 xs) ≡ big_number 4 xs
first_quad [] = refl
first_quad (a ∷ []) = refl
first_quad (a ∷ b ∷ []) = refl
first_quad (a ∷ b ∷ c ∷ []) = refl
first_quad (a ∷ b ∷ c ∷ d ∷ rest) = refl

read_out : (m : Memory) (slot at : ℕ) (out : List ℕ) → IsWhole m → slot < 32 → (slot_at m slot).is_armed ≡ true → at + 4 ≤ 32 → length out ≡ 4 → (read_step m (start (windows.Orb slot) + at) out).1 ≡ take 4 (drop at (slot_at m slot).orb)
read_out m slot at out whole s a h l =
    ap (λ (n : ℕ). (read_at m out (judged m Read (start (windows.Orb slot) + at) n)).1) l
    ∙ ap (λ (r : Result Spot Rcode). (read_at m out r).1) (read_here m slot at whole s a h)
    ∙ ap (λ (n : ℕ). take n (drop at (slot_at m slot).orb)) l

pub quad_read : (m : Memory) (slot at offset rcode value : ℕ) (out found : List ℕ) → offset ≡ start (windows.Orb slot) + at → (rcode, found) ≡ read_step m offset out → value ≡ quad found 0 → IsWhole m → slot < 32 → (slot_at m slot).is_armed ≡ true → at + 4 ≤ 32 → length out ≡ 4 → value ≡ quad (slot_at m slot).orb at
quad_read m slot at offset rcode value out found e r v whole s a h l =
    v ∙ ap (λ (p : ℕ × List ℕ). quad p.1 0) r
    ∙ ap (λ (n : ℕ). quad (read_step m n out).1 0) e
    ∙ ap (λ (l : List ℕ). quad l 0) (read_out m slot at out whole s a h l)
    ∙ first_quad (drop at (slot_at m slot).orb)
