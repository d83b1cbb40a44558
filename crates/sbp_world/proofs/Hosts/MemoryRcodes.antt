-- The rcode of a read and of a write of an initiator's memory, as the run terms have it, and the bytes that a read gives.
use Rattle.sbp_world.proofs.Words.Std.{arith, ◌≡◌, refl, sym, ap, subst, ◌∙◌, ℕ, ◌+◌, ◌-◌, ◌==◌, ◌&&◌, ◌||◌, not, nat_le, Bool, true, false, cond, List, [], ◌∷◌, length, take, drop, Option, Some, None, Ok, Err}
use Rattle.sbp_world.proofs.Words.Wire.{Access, first_or, window_rcode, Moment}
use Rattle.sbp_world.proofs.Words.Initiator.{memory_open, judged, judged_at, read_at, read_step, spot_in, spot_of, memory_takes, write_at, write_step, Memory, bytes_in, is_fifo, start, window_at, TypeError, Spot, Window}
use Rattle.sbp_world.proofs.Words.Laws.{has_direction, is_open, lies_inside, size_of, takes_writes, window_facts}
use Rattle.sbp_world.proofs.Words.World.{IsReadOf, IsWriteOf}
use Rattle.bus_memory.specs.declared.access.Access.TheVariants.{Read, Write}

-- the run terms say of a window what the memory has
pub record Agrees (past : List Moment) (i rom : ℕ) (m : Memory) (window : Window) : Type 0 where
  pub open_as : is_open past i window ≡ memory_open m window
  pub size : size_of rom window ≡ length (bytes_in m window)
  pub direction : memory_open m window ≡ true → takes_writes past i window ≡ memory_takes m window

abbrev pub IfAgrees : List Moment → ℕ → ℕ → Memory → Option Window → Type 0
IfAgrees past i rom m None = Unit {0}
IfAgrees past i rom m (Some window) = Agrees past i rom m window

-- the rows behind those of an empty range and of a FIFO
abbrev Rows : (inside has : Bool) → ℕ
Rows inside has = first_or 0 ((not inside, 7) ∷ (not has, 6) ∷ [])

abbrev AllRows : (empty fifo inside has : Bool) → ℕ
AllRows empty fifo inside has = first_or 0 ((false, 6) ∷ (empty, 6) ∷ (fifo, 6) ∷ (not inside, 7) ∷ (not has, 6) ∷ [])

pub and_true : (a b : Bool) → a && b ≡ true → a ≡ true
and_true true b e = refl
and_true false b e = e

module _ (past : List Moment) (i rom : ℕ) (m : Memory) (access : Access) where
  abbrev at : Window → ℕ
  at window = access.offset - start window

  abbrev spot : Window → Spot
  spot window = record { window = window; at = at window }

  abbrev room : Window → Bool
  room window = memory_open m window && nat_le (at window + access.count) (length (bytes_in m window))

  inside_is : (window : Window) → Agrees past i rom m window → lies_inside past i rom access (Some window) ≡ room window
  inside_is window a =
      ap (λ b. b && nat_le (at window + access.count) (size_of rom window)) a.open_as
      ∙ ap (λ n. memory_open m window && nat_le (at window + access.count) n) a.size

  -- ---- a read

  module _ (out : List ℕ) (is_read : access.is_write ≡ false) where
    has_read : (window : Window) → has_direction past i access (Some window) ≡ not (takes_writes past i window)
    has_read window = ap (λ b. has_direction past i (record access { is_write = b }) (Some window)) is_read

    read_row : (window : Window) (b : Bool) → takes_writes past i window ≡ memory_takes m window → memory_takes m window ≡ b → (read_at m out (cond (not (memory_takes m window)) (Ok (spot window)) (Err TypeError))).0 ≡ Rows true (not (takes_writes past i window))
    read_row window true e g =
        ap (λ b. (read_at m out (cond (not b) (Ok (spot window)) (Err TypeError))).0) g ∙ sym (ap (λ b. Rows true (not b)) (e ∙ g))
    read_row window false e g =
        ap (λ b. (read_at m out (cond (not b) (Ok (spot window)) (Err TypeError))).0) g ∙ sym (ap (λ b. Rows true (not b)) (e ∙ g))

    read_inside : (window : Window) (b : Bool) → room window ≡ b → Agrees past i rom m window → (read_at m out (judged_at m Read (cond b (Some (spot window)) None))).0 ≡ Rows b (not (takes_writes past i window))
    read_inside window false e a = refl
    read_inside window true e a = read_row window (memory_takes m window) (a.direction (and_true (memory_open m window) _ e)) refl

    read_found : (found : Option Window) → IfAgrees past i rom m found → (read_at m out (judged_at m Read (spot_in m access.offset access.count found))).0 ≡ Rows (lies_inside past i rom access found) (has_direction past i access found)
    read_found None a = refl
    read_found (Some window) a =
        read_inside window (room window) refl a
        ∙ (ap (λ b. Rows b (not (takes_writes past i window))) (sym (inside_is window a))
        ∙ ap (λ b. Rows (lies_inside past i rom access (Some window)) b) (sym (has_read window)))

    read_all : (empty fifo : Bool) (found : Option Window) → IfAgrees past i rom m found → (read_at m out (cond (empty || fifo) (Err TypeError) (judged_at m Read (spot_in m access.offset access.count found)))).0 ≡ AllRows empty fifo (lies_inside past i rom access found) (has_direction past i access found)
    read_all true fifo found a = refl
    read_all false true found a = refl
    read_all false false found a = read_found found a

  pub read_code : (out : List ℕ) → IsReadOf access out → IfAgrees past i rom m (window_at access.offset) → (read_step m access.offset out).0 ≡ window_rcode (window_facts past i rom access)
  unfolding judged spot_of
  read_code out r a =
      ap (λ n. (read_at m out (cond ((n == 0) || is_fifo access.offset) (Err TypeError) (judged_at m Read (spot_in m access.offset n (window_at access.offset))))).0) r.size
      ∙ (read_all out r.write (access.count == 0) (is_fifo access.offset) (window_at access.offset) a
      ∙ sym (ap (λ b. first_or 0 ((b, 6) ∷ (access.count == 0, 6) ∷ (is_fifo access.offset, 6) ∷ (not (lies_inside past i rom access (window_at access.offset)), 7) ∷ (not (has_direction past i access (window_at access.offset)), 6) ∷ [])) r.lock))

  -- the bytes of a read that is complete
  read_out : (out : List ℕ) (refused : Bool) (found : Option Window) → (read_at m out (cond refused (Err TypeError) (judged_at m Read (spot_in m access.offset access.count found)))).0 ≡ 0 → (window : Window) → found ≡ Some window → (read_at m out (cond refused (Err TypeError) (judged_at m Read (spot_in m access.offset access.count found)))).1 ≡ take (length out) (drop (at window) (bytes_in m window))
  read_out out true found z window e = absurd (omega arith)
  read_out out false None z window e = absurd (differ e)
    where
      differ : None ≡ Some window → ⊥
      differ e = cc
  read_out out false (Some other) z window e = by_room (room other) z
    where
      by_serve : (b : Bool) → (read_at m out (cond b (Ok (spot other)) (Err TypeError))).0 ≡ 0 → (read_at m out (cond b (Ok (spot other)) (Err TypeError))).1 ≡ take (length out) (drop (at window) (bytes_in m window))
      by_serve false z = absurd (omega arith)
      by_serve true z = let g : other ≡ window = cc in ap (λ x. take (length out) (drop (at x) (bytes_in m x))) g

      by_room : (b : Bool) → (read_at m out (judged_at m Read (cond b (Some (spot other)) None))).0 ≡ 0 → (read_at m out (judged_at m Read (cond b (Some (spot other)) None))).1 ≡ take (length out) (drop (at window) (bytes_in m window))
      by_room false z = absurd (omega arith)
      by_room true z = by_serve (not (memory_takes m other)) z

  pub read_bytes : (out : List ℕ) → IsReadOf access out → (read_step m access.offset out).0 ≡ 0 → (window : Window) → window_at access.offset ≡ Some window → (read_step m access.offset out).1 ≡ take access.count (drop (at window) (bytes_in m window))
  unfolding judged spot_of
  read_bytes out r z window e =
      subst (λ n. (read_at m out (cond ((length out == 0) || is_fifo access.offset) (Err TypeError) (judged_at m Read (spot_in m access.offset n (window_at access.offset))))).0 ≡ 0 → (read_at m out (cond ((length out == 0) || is_fifo access.offset) (Err TypeError) (judged_at m Read (spot_in m access.offset n (window_at access.offset))))).1 ≡ take (length out) (drop (at window) (bytes_in m window))) (sym r.size)
      (λ y. read_out out ((length out == 0) || is_fifo access.offset) (window_at access.offset) y window e) z
      ∙ ap (λ n. take n (drop (at window) (bytes_in m window))) r.size

  -- one that is complete is of a window that is open
  open_out : (out : List ℕ) (refused : Bool) (found : Option Window) → (read_at m out (cond refused (Err TypeError) (judged_at m Read (spot_in m access.offset access.count found)))).0 ≡ 0 → (window : Window) → found ≡ Some window → memory_open m window ≡ true
  open_out out true found z window e = absurd (omega arith)
  open_out out false None z window e = absurd (differ e)
    where
      differ : None ≡ Some window → ⊥
      differ e = cc
  open_out out false (Some other) z window e = by_room (room other) refl z
    where
      by_room : (b : Bool) → room other ≡ b → (read_at m out (judged_at m Read (cond b (Some (spot other)) None))).0 ≡ 0 → memory_open m window ≡ true
      by_room false g z = absurd (omega arith)
      by_room true g z = let same : other ≡ window = cc in subst (λ x. memory_open m x ≡ true) same (and_true (memory_open m other) _ g)

  pub read_open : (out : List ℕ) → IsReadOf access out → (read_step m access.offset out).0 ≡ 0 → (window : Window) → window_at access.offset ≡ Some window → memory_open m window ≡ true
  unfolding judged spot_of
  read_open out r z window e =
      open_out out ((length out == 0) || is_fifo access.offset) (window_at access.offset)
      (subst (λ n. (read_at m out (cond ((length out == 0) || is_fifo access.offset) (Err TypeError) (judged_at m Read (spot_in m access.offset n (window_at access.offset))))).0 ≡ 0) r.size z) window e

  -- and of one that the target reads
  read_out_of : (out : List ℕ) (refused : Bool) (found : Option Window) → (read_at m out (cond refused (Err TypeError) (judged_at m Read (spot_in m access.offset access.count found)))).0 ≡ 0 → (window : Window) → found ≡ Some window → memory_takes m window ≡ false
  read_out_of out true found z window e = absurd (omega arith)
  read_out_of out false None z window e = absurd (differ e)
    where
      differ : None ≡ Some window → ⊥
      differ e = cc
  read_out_of out false (Some other) z window e = by_room (room other) z
    where
      by_serve : (b : Bool) → memory_takes m other ≡ b → (read_at m out (cond (not (memory_takes m other)) (Ok (spot other)) (Err TypeError))).0 ≡ 0 → memory_takes m window ≡ false
      by_serve true g z =
          let wrong : ◌≡◌ {A = ℕ} 6 0 = sym (ap (λ b. (read_at m out (cond (not b) (Ok (spot other)) (Err TypeError))).0) g) ∙ z in absurd (omega arith)
      by_serve false g z = let same : other ≡ window = cc in subst (λ x. memory_takes m x ≡ false) same g

      by_room : (b : Bool) → (read_at m out (judged_at m Read (cond b (Some (spot other)) None))).0 ≡ 0 → memory_takes m window ≡ false
      by_room false z = absurd (omega arith)
      by_room true z = by_serve (memory_takes m other) refl z

  pub read_direction : (out : List ℕ) → IsReadOf access out → (read_step m access.offset out).0 ≡ 0 → (window : Window) → window_at access.offset ≡ Some window → memory_takes m window ≡ false
  unfolding judged spot_of
  read_direction out r z window e =
      read_out_of out ((length out == 0) || is_fifo access.offset) (window_at access.offset)
      (subst (λ n. (read_at m out (cond ((length out == 0) || is_fifo access.offset) (Err TypeError) (judged_at m Read (spot_in m access.offset n (window_at access.offset))))).0 ≡ 0) r.size z) window e

  -- ---- a write

  module _ (bytes : List ℕ) (is_write : access.is_write ≡ true) where
    has_write : (window : Window) → has_direction past i access (Some window) ≡ takes_writes past i window
    has_write window = ap (λ b. has_direction past i (record access { is_write = b }) (Some window)) is_write

    write_row : (window : Window) (b : Bool) → takes_writes past i window ≡ memory_takes m window → memory_takes m window ≡ b → (write_at m bytes (cond (memory_takes m window) (Ok (spot window)) (Err TypeError))).0 ≡ Rows true (takes_writes past i window)
    write_row window true e g =
        ap (λ b. (write_at m bytes (cond b (Ok (spot window)) (Err TypeError))).0) g ∙ sym (ap (λ b. Rows true b) (e ∙ g))
    write_row window false e g =
        ap (λ b. (write_at m bytes (cond b (Ok (spot window)) (Err TypeError))).0) g ∙ sym (ap (λ b. Rows true b) (e ∙ g))

    write_inside : (window : Window) (b : Bool) → room window ≡ b → Agrees past i rom m window → (write_at m bytes (judged_at m Write (cond b (Some (spot window)) None))).0 ≡ Rows b (takes_writes past i window)
    write_inside window false e a = refl
    write_inside window true e a = write_row window (memory_takes m window) (a.direction (and_true (memory_open m window) _ e)) refl

    write_found : (found : Option Window) → IfAgrees past i rom m found → (write_at m bytes (judged_at m Write (spot_in m access.offset access.count found))).0 ≡ Rows (lies_inside past i rom access found) (has_direction past i access found)
    write_found None a = refl
    write_found (Some window) a =
        write_inside window (room window) refl a
        ∙ (ap (λ b. Rows b (takes_writes past i window)) (sym (inside_is window a))
        ∙ ap (λ b. Rows (lies_inside past i rom access (Some window)) b) (sym (has_write window)))

    write_all : (empty fifo : Bool) (found : Option Window) → IfAgrees past i rom m found → (write_at m bytes (cond (empty || fifo) (Err TypeError) (judged_at m Write (spot_in m access.offset access.count found)))).0 ≡ AllRows empty fifo (lies_inside past i rom access found) (has_direction past i access found)
    write_all true fifo found a = refl
    write_all false true found a = refl
    write_all false false found a = write_found found a

  pub write_code : (bytes : List ℕ) → IsWriteOf access bytes → IfAgrees past i rom m (window_at access.offset) → (write_step m access.offset bytes).0 ≡ window_rcode (window_facts past i rom access)
  unfolding judged spot_of
  write_code bytes r a =
      ap (λ n. (write_at m bytes (cond ((n == 0) || is_fifo access.offset) (Err TypeError) (judged_at m Write (spot_in m access.offset n (window_at access.offset))))).0) r.size
      ∙ (write_all bytes r.write (access.count == 0) (is_fifo access.offset) (window_at access.offset) a
      ∙ sym (ap (λ b. first_or 0 ((b, 6) ∷ (access.count == 0, 6) ∷ (is_fifo access.offset, 6) ∷ (not (lies_inside past i rom access (window_at access.offset)), 7) ∷ (not (has_direction past i access (window_at access.offset)), 6) ∷ [])) r.lock))
