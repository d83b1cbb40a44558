-- What the run terms say of a read of a window: its rcode, and that the window is open where the read is complete.
use Rattle.sbp_world.proofs.Words.Std.{arith, ◌≡◌, refl, sym, ap, ◌∙◌, ℕ, suc, ◌<◌, ◌^◌, ◌==◌, not, Bool, true, false, cond, List, [], ◌∷◌, Some, false≢true, true≢false}
use Rattle.sbp_world.proofs.Words.Wire.{Access, first_or, window_rcode, Moment}
use Rattle.sbp_world.proofs.Words.Initiator.{Window, is_fifo, window_at}
use Rattle.sbp_world.proofs.Words.Laws.{rom_size, has_direction, host_reply, is_fifo_write, is_open, lies_inside, window_facts}
use Rattle.sbp_world.proofs.Hosts.MemoryRcodes.{and_true}

-- ---- the rcode

abbrev pub code : (lock empty fifo inside has : Bool) → ℕ
code lock empty fifo inside has = first_or 0 ((lock, 6) ∷ (empty, 6) ∷ (fifo, 6) ∷ (not inside, 7) ∷ (not has, 6) ∷ [])

small_code : (lock empty fifo inside has : Bool) → code lock empty fifo inside has < 2 ^ 4
small_code true empty fifo inside has = omega arith
small_code false true fifo inside has = omega arith
small_code false false true inside has = omega arith
small_code false false false false has = omega arith
small_code false false false true false = omega arith
small_code false false false true true = omega arith

-- no row holds
pub code_zero : (lock empty fifo inside has : Bool) → lock ≡ false → empty ≡ false → fifo ≡ false → inside ≡ true → has ≡ true → code lock empty fifo inside has ≡ 0
code_zero true empty fifo inside has a b c d g = absurd (true≢false a)
code_zero false true fifo inside has a b c d g = absurd (true≢false b)
code_zero false false true inside has a b c d g = absurd (true≢false c)
code_zero false false false false has a b c d g = absurd (false≢true d)
code_zero false false false true false a b c d g = absurd (false≢true g)
code_zero false false false true true a b c d g = refl

pub some : (n : ℕ) → suc n ≡ 0 → ⊥
some n e = omega arith

-- a range that is served does not leave its window
pub inside_by : (lock empty fifo inside has : Bool) → code lock empty fifo inside has ≡ 0 → inside ≡ true
inside_by true empty fifo inside has e = absurd (some 5 e)
inside_by false true fifo inside has e = absurd (some 5 e)
inside_by false false true inside has e = absurd (some 5 e)
inside_by false false false false has e = absurd (some 6 e)
inside_by false false false true has e = refl

module _ (past : List Moment) (i : ℕ) (access : Access) where
  abbrev inside : Bool
  inside = lies_inside past i (rom_size (suc i) 0) access (window_at access.offset)

  abbrev row : ℕ
  row = code access.is_lock (access.count == 0) (is_fifo access.offset) inside (has_direction past i access (window_at access.offset))

  small_by : (b : Bool) → cond b 0 row < 2 ^ 4
  small_by true = omega arith
  small_by false = small_code access.is_lock (access.count == 0) (is_fifo access.offset) inside (has_direction past i access (window_at access.offset))

  pub rcode_small : (host_reply past i access).rcode < 2 ^ 4
  rcode_small = small_by (is_fifo_write access)

  no_fifo_write : access.is_write ≡ false → is_fifo_write access ≡ false
  no_fifo_write e = ap (λ b. is_fifo_write (record access { is_write = b })) e

  pub read_code : access.is_write ≡ false → (host_reply past i access).rcode ≡ window_rcode (window_facts past i (rom_size (suc i) 0) access)
  read_code reads = ap (λ b. cond b 0 row) (no_fifo_write reads)

  -- a read that is complete is of an open window
  pub opens : access.is_write ≡ false → (host_reply past i access).rcode ≡ 0 → (window : Window) → window_at access.offset ≡ Some window → is_open past i window ≡ true
  opens reads complete window e =
      let zero_row : row ≡ 0 = sym (read_code reads) ∙ complete in
      let is : inside ≡ true = inside_by access.is_lock (access.count == 0) (is_fifo access.offset) inside (has_direction past i access (window_at access.offset)) zero_row in
      and_true (is_open past i window) _ (sym (ap (lies_inside past i (rom_size (suc i) 0) access) e) ∙ is)
