-- The buffer that an initiator lays out for a command (NCITS 325-1998, page tables): its segments, where its page table has no fault; and its chunks begin in the window of its slot.
use Rattle.sbp_world.proofs.Words.Std.{arith, ◌≡◌, refl, ◌<◌, ◌≤◌, ◌+◌, ◌-◌, ◌*◌, ◌/◌, ◌^◌, ◌==◌, ◌||◌, nat_lt, ℕ, zero, suc, Bool, true, false, cond, List, [], ◌∷◌, ◌++◌, length, Option, Some, None, nat_tests}
use Rattle.sbp_world.proofs.Words.Wire.{Cmd}
use Rattle.sbp_world.proofs.Words.Initiator.{start, behind, has_table, PageFault, PastEnd, ZeroSegment, Chunk, Segment, AreSegments, chunks, pieces, segment_chunks, first_fault}
use Rattle.sbp_world.proofs.Words.Laws.{Moved, begins_one, laid_out, placed}
use Rattle.std.specs.Prelude.{sum}
use Rattle.sbp_world.proofs.Hosts.BytePlaces.{total}
use Rattle.bus_memory.specs.declared.window.Window.TheVariants as windows

abbrev no_fault : Option PageFault
no_fault = None

faulty : {A : Type 0} (fault : PageFault) → Some fault ≡ no_fault → A
faulty fault e = absurd (let x : Some fault ≡ no_fault = e in cc)

-- ---- segments
abbrev tail_fault : (k at count : ℕ) → List ℕ → Option PageFault
tail_fault k at count rest = first_fault (k + 1) (placed (behind at count) rest)

sound_placed : (k at : ℕ) (counts : List ℕ) → first_fault k (placed at counts) ≡ None → sum counts ≤ 16384 → at + sum counts + 20 * length counts ≤ 2 ^ 40 → AreSegments (placed at counts)
sound_placed k at [] e s b = tt
sound_placed k at (count ∷ rest) e s b = by (λ f. sound_placed (k + 1) (behind at count) rest f (omega (arith, s, total count rest)) (omega (arith, b, total count rest))) (count == 0) refl e
  where
    further : (tail_fault k at count rest ≡ None → AreSegments (placed (behind at count) rest)) → (c : Bool) → cond c (Some (PastEnd k)) (tail_fault k at count rest) ≡ None → AreSegments (placed (behind at count) rest)
    further again true e = faulty (PastEnd k) e
    further again false e = again e

    by : (tail_fault k at count rest ≡ None → AreSegments (placed (behind at count) rest)) → (c : Bool) → (count == 0) ≡ c → cond c (Some (ZeroSegment k)) (cond (nat_lt (2 ^ 48) (at + count)) (Some (PastEnd k)) (tail_fault k at count rest)) ≡ None → AreSegments (placed at (count ∷ rest))
    by again true f e = faulty (ZeroSegment k) e
    by again false f e =
        let some : 0 < count = grind (arith, nat_tests, f) in
        (record { some = some; small = omega (arith, s, total count rest); inside = omega (arith, b, total count rest) }, further again (nat_lt (2 ^ 48) (at + count)) e)

module _ (slot : ℕ) (small : slot < 32) (cmd : Cmd) (short : cmd.length ≤ 16384) where
  pub laid_sound : (segments : List ℕ) → length segments ≤ 64 → sum segments ≤ cmd.length → (has_table segments ≡ true → first_fault 0 (laid_out slot cmd segments) ≡ None) → AreSegments (laid_out slot cmd segments)
  laid_sound [] few whole sound = by (cmd.length == 0) refl
    where
      by : (c : Bool) → (cmd.length == 0) ≡ c → AreSegments (cond c [] (record { base = start (windows.Buffer slot); length = cmd.length } ∷ []))
      by true e = tt
      by false e =
          let some : 0 < cmd.length = grind (arith, nat_tests, e) in
          (record { some = some; small = omega (arith, short); inside = omega (arith, short, small) }, tt)
  laid_sound (count ∷ rest) few whole sound = sound_placed 0 (start (windows.Buffer slot)) (count ∷ rest) (sound refl) (omega (arith, whole, short)) (omega (arith, whole, short, few, small))

-- ---- where chunks begin
module _ (one : Moved) where
  neither : (a b : Bool) → a ≡ false → b ≡ false → a || b ≡ false
  neither false b e f = f
  neither true b e f = absurd (let x : true ≡ false = e in cc)

  none_in_both : (xs ys : List Chunk) → begins_one xs one ≡ false → begins_one ys one ≡ false → begins_one (xs ++ ys) one ≡ false
  none_in_both [] ys e f = f
  none_in_both (x ∷ xs) ys e f = by (λ h. none_in_both xs ys h f) (x.offset == one.offset) refl e
    where
      by : (begins_one xs one ≡ false → begins_one (xs ++ ys) one ≡ false) → (c : Bool) → (x.offset == one.offset) ≡ c → c || begins_one xs one ≡ false → (x.offset == one.offset) || begins_one (xs ++ ys) one ≡ false
      by again true g h = absurd (let z : true ≡ false = h in cc)
      by again false g h = neither (x.offset == one.offset) (begins_one (xs ++ ys) one) g (again h)

  below_pieces : (count base left limit : ℕ) → one.offset < base → begins_one (pieces count base left limit) one ≡ false
  below_pieces zero base left limit b = refl
  below_pieces (suc count) base left limit b =
      neither (base == one.offset) (begins_one (pieces count (base + limit) (left - limit) limit) one) (let z : (base == one.offset) ≡ false = grind (arith, nat_tests, b) in z)
      (below_pieces count (base + limit) (left - limit) limit (omega (arith, b)))

  abbrev Below : List Segment → Type 0
  Below [] = Unit {0}
  Below (segment ∷ rest) = (one.offset < segment.base) × Below rest

  below_chunks : (limit : ℕ) (segments : List Segment) → Below segments → begins_one (chunks limit segments) one ≡ false
  below_chunks limit [] b = refl
  below_chunks limit (segment ∷ rest) b =
      none_in_both (segment_chunks limit segment) (chunks limit rest) (below_pieces ((segment.length + limit - 1) / limit) segment.base segment.length limit b.0) (below_chunks limit rest b.1)

  below_placed : (at : ℕ) (counts : List ℕ) → one.offset < at → Below (placed at counts)
  below_placed at [] b = tt
  below_placed at (count ∷ rest) b = (b, below_placed (behind at count) rest (omega (arith, b)))

  below_laid : (slot : ℕ) (cmd : Cmd) (segments : List ℕ) → one.offset < start (windows.Buffer slot) → Below (laid_out slot cmd segments)
  below_laid slot cmd [] b = by (cmd.length == 0)
    where
      by : (c : Bool) → Below (cond c [] (record { base = start (windows.Buffer slot); length = cmd.length } ∷ []))
      by true = tt
      by false = (b, tt)
  below_laid slot cmd (count ∷ rest) b = below_placed (start (windows.Buffer slot)) (count ∷ rest) b

  -- what is moved below the buffer begins none of its chunks
  pub begins_none : (limit slot : ℕ) (cmd : Cmd) → one.offset < start (windows.Buffer slot) → begins_one (chunks limit (laid_out slot cmd cmd.segments)) one ≡ false
  begins_none limit slot cmd b = below_chunks limit (laid_out slot cmd cmd.segments) (below_laid slot cmd cmd.segments b)
