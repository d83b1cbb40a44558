-- The page table and the buffer of an ORB in a slot, as the target reads them.
use Rattle.sbp_world.proofs.Words.Std.{arith, ◌≡◌, refl, sym, ap, subst, ◌∙◌, ℕ, ◌+◌, ◌-◌, ◌^◌, ◌<◌, ◌≤◌, ◌==◌, ◌||◌, nat_lt, sum, Bool, true, false, cond, List, [], ◌∷◌, length, take, drop, Option, Some, None, Err, nat_tests, sum_by-cons, AllByRecursion}
use Rattle.sbp_world.proofs.Words.Wire.{Cmd}
use Rattle.sbp_world.proofs.Words.Initiator.{judged, judged_at, read_step, spot_in, spot_of, Memory, slot_at, is_fifo, start, TypeError, Window, OrbPointer, behind, data_size, data_start, has_table, table_bytes, segments_of, bytes_of, single, elements_of, Segment, IsCommand}
use Rattle.sbp_world.proofs.Words.Laws.{Moved, buffer_in, laid_out, placed, read_at}
use Rattle.sbp_world.proofs.Words.World.{orb_for}
use Rattle.bus_memory.specs.Access.{read_at as read_as}
use Rattle.bus_memory.specs.declared.access.Access.TheVariants.{Read}
use Rattle.bus_memory.specs.declared.window.Window.TheVariants as windows
use Rattle.bus_memory.proofs.Found.{window_here}
use Rattle.orb_list.proofs.Tables.{table_law}

-- ---- a read of a page table

read_when : (m : Memory) (slot at : ℕ) (out : List ℕ) (refused inside : Bool) → at ≡ 0 → (read_as m out (cond refused (Err TypeError) (judged_at m Read (cond inside (Some (record { window = windows.Table slot; at = at })) None)))).0 ≡ 0 → (read_as m out (cond refused (Err TypeError) (judged_at m Read (cond inside (Some (record { window = windows.Table slot; at = at })) None)))).1 ≡ take (length out) (slot_at m slot).table
read_when m slot at out true inside z e = absurd (omega arith)
read_when m slot at out false false z e = absurd (omega arith)
read_when m slot at out false true z e = ap (λ (n : ℕ). take (length out) (drop n (slot_at m slot).table)) z

-- one that is served gives its first bytes
pub read_table : (m : Memory) (slot : ℕ) (out : List ℕ) → slot < 32 → (read_step m (start (windows.Table slot)) out).0 ≡ 0 → (read_step m (start (windows.Table slot)) out).1 ≡ take (length out) (slot_at m slot).table
unfolding judged spot_of
read_table m slot out h =
    subst (λ (found : Option Window). (read_as m out (cond ((length out == 0) || is_fifo (start (windows.Table slot))) (Err TypeError) (judged_at m Read (spot_in m (start (windows.Table slot)) (length out) found)))).0 ≡ 0 → (read_as m out (cond ((length out == 0) || is_fifo (start (windows.Table slot))) (Err TypeError) (judged_at m Read (spot_in m (start (windows.Table slot)) (length out) found)))).1 ≡ take (length out) (slot_at m slot).table)
    (sym (window_here m (start (windows.Table slot)) (windows.Table slot) h (omega arith) (omega arith)))
    (read_when m slot (start (windows.Table slot) - start (windows.Table slot)) out _ _ (omega arith))

-- ---- the buffer

small_counts : (segments : List ℕ) → sum segments ≤ 16384 → AllByRecursion (λ count. count < 2 ^ 16) segments
small_counts [] h = tt
small_counts (count ∷ rest) h =
    let total : sum (count ∷ rest) ≡ count + sum rest = sum_by-cons (λ v. v) count rest in (omega arith, small_counts rest (omega arith))

placed_as : (slot at : ℕ) (segments : List ℕ) → segments_of slot at segments ≡ placed (start (windows.Buffer slot) + at) segments
placed_as slot at [] = refl
placed_as slot at (count ∷ rest) =
    let next : start (windows.Buffer slot) + behind at count ≡ behind (start (windows.Buffer slot) + at) count = omega arith in
    ap (λ (xs : List Segment). record { base = start (windows.Buffer slot) + at; length = count } ∷ xs) (placed_as slot (behind at count) rest ∙ ap (λ x. placed x rest) next)

abbrev segment : ℕ → ℕ → Segment
segment base len = record { base = base; length = len }

one_segment : (base len : ℕ) (c d : Bool) → (c ≡ false → d ≡ true) → cond c [] (segment (cond d base 0) len ∷ []) ≡ cond c [] (segment base len ∷ [])
one_segment base len true d h = refl
one_segment base len false true h = refl
one_segment base len false false h = absurd (differ (h refl))
  where
    differ : false ≡ true → ⊥
    differ e = cc

-- a page table is read as the segments of its buffer
table_laid_by : (slot : ℕ) (cmd : Cmd) (segments : List ℕ) → slot < 32 → sum segments ≤ 16384 → length segments ≤ 64 → has_table segments ≡ true → elements_of (table_bytes slot 0 segments) ≡ laid_out slot cmd segments
table_laid_by slot cmd [] small s l e = cc
table_laid_by slot cmd (first ∷ rest) small s l e =
    let at : start (windows.Buffer slot) + 0 ≡ start (windows.Buffer slot) = omega arith in
    table_law slot (first ∷ rest) small (small_counts (first ∷ rest) s) (omega arith)
    ∙ (placed_as slot 0 (first ∷ rest) ∙ ap (λ x. placed x (first ∷ rest)) at)

pub table_laid : (slot : ℕ) (cmd : Cmd) → slot < 32 → IsCommand cmd → has_table cmd.segments ≡ true → elements_of (table_bytes slot 0 cmd.segments) ≡ laid_out slot cmd cmd.segments
table_laid slot cmd small fits e =
    let q = fits 0 0 in
    let total = q.whole in
    let short = q.short in
    table_laid_by slot cmd cmd.segments small (omega arith) q.segments e

module _ (cmd : Cmd) (slot : ℕ) (small : slot < 32) (moved : List Moved) where
  abbrev descriptor : List ℕ → ℕ
  descriptor segments = cond (nat_lt 0 (data_size cmd.length segments)) (data_start slot segments) 0

  laid_by : (segments : List ℕ) → sum segments ≤ 16384 → length segments ≤ 64 → (has_table segments ≡ true → read_at (start (windows.Table slot)) moved ≡ table_bytes slot 0 segments) → cond (has_table segments) (elements_of (read_at (descriptor segments) moved)) (single (descriptor segments) (data_size cmd.length segments)) ≡ laid_out slot cmd segments
  laid_by [] s l h = one_segment (start (windows.Buffer slot)) cmd.length (cmd.length == 0) (nat_lt 0 cmd.length) (λ e. grind (arith, nat_tests))
  laid_by (first ∷ rest) s l h =
      let some : nat_lt 0 (length (first ∷ rest)) ≡ true = grind (arith, nat_tests) in
      ap (λ b. elements_of (read_at (cond b (start (windows.Table slot)) 0) moved)) some
      ∙ (ap elements_of (h refl) ∙ table_laid_by slot cmd (first ∷ rest) small s l refl)

  pub laid_as : IsCommand cmd → (node : ℕ) (next : OrbPointer) (format : ℕ) → (has_table cmd.segments ≡ true → read_at (start (windows.Table slot)) moved ≡ table_bytes slot 0 cmd.segments) → buffer_in (orb_for cmd node slot next format) moved ≡ laid_out slot cmd cmd.segments
  laid_as fits node next format h =
      let q = fits 0 0 in
      let total = q.whole in
      let short = q.short in
      laid_by cmd.segments (omega arith) q.segments h

-- ---- its length

placed_bytes : (at : ℕ) (segments : List ℕ) → bytes_of (placed at segments) ≡ sum segments
placed_bytes at [] = refl
placed_bytes at (count ∷ rest) = ap (λ n. count + n) (placed_bytes (behind at count) rest) ∙ sym (sum_by-cons (λ v. v) count rest)

single_bytes : (base len : ℕ) → bytes_of (single base len) ≡ len
single_bytes base len = by_length (len == 0) refl
  where
    by_length : (c : Bool) → (len == 0) ≡ c → bytes_of (cond c [] (segment base len ∷ [])) ≡ len
    by_length true e = grind (arith, nat_tests)
    by_length false e = omega arith

laid_bytes : (slot : ℕ) (cmd : Cmd) (segments : List ℕ) → (has_table segments ≡ true → sum segments ≡ cmd.length) → bytes_of (laid_out slot cmd segments) ≡ cmd.length
laid_bytes slot cmd [] h = single_bytes (start (windows.Buffer slot)) cmd.length
laid_bytes slot cmd (count ∷ rest) h = placed_bytes (start (windows.Buffer slot)) (count ∷ rest) ∙ h refl

has_some : (segments : List ℕ) → has_table segments ≡ true → 0 < length segments
has_some [] e = absurd (cc e)
has_some (first ∷ rest) e = omega arith

pub whole_bytes : (slot : ℕ) (cmd : Cmd) → (0 < length cmd.segments → sum cmd.segments ≡ cmd.length) → bytes_of (laid_out slot cmd cmd.segments) ≡ cmd.length
whole_bytes slot cmd h = laid_bytes slot cmd cmd.segments (λ e. h (has_some cmd.segments e))
