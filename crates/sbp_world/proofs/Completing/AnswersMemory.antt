-- A request that lies inside an open window of an initiator, of the direction that the window serves, is answered complete, and a read with as many bytes as it asks for.
use Rattle.sbp_world.proofs.Words.Std.{arith, ◌≡◌, ◌∙◌, refl, sym, ap, ◌<◌, ◌≤◌, ◌+◌, ◌-◌, ◌==◌, ◌&&◌, nat_le, ℕ, suc, Bool, true, false, cond, List, length, replicate, length-replicate, Some, nat_tests}
use Rattle.sbp_world.proofs.Words.Wire.{Access, Moment}
use Rattle.sbp_world.proofs.Words.Initiator.{InitiatorState, Window, is_fifo, read_step, start, window_at}
use Rattle.sbp_world.proofs.Words.Laws.{has_direction, host_reply, is_open, lies_inside, rom_size, size_of}
use Rattle.sbp_world.proofs.Words.World.{IsReadBy, IsReadOf, IsSaid}
use Rattle.sbp_laws.specs.Served.{is_fifo_write}
use Rattle.sbp_world.specs.Completing.Answers.{IsComplete}
use Rattle.sbp_world.proofs.FitInitiator.Memory.{read_long}
use Rattle.sbp_world.proofs.Hosts.ResponseTells.{code, code_zero, read_code}

module _ (past : List Moment) (i : ℕ) (access : Access) where
  abbrev rom : ℕ
  rom = rom_size (suc i) 0

  pub record IsInside (window : Window) : Type 0 where
    pub found : window_at access.offset ≡ Some window
    pub lock : access.is_lock ≡ false
    pub some : 0 < access.count
    pub fifo : is_fifo access.offset ≡ false
    pub opened : is_open past i window ≡ true
    pub room : access.offset - start window + access.count ≤ size_of rom window
    pub way : has_direction past i access (Some window) ≡ true

  either_zero : (b : Bool) (row : ℕ) → row ≡ 0 → cond b 0 row ≡ 0
  either_zero true row e = refl
  either_zero false row e = e

  pub inside_complete : (window : Window) → IsInside window → (host_reply past i access).rcode ≡ 0
  inside_complete window x =
      let some = x.some in
      let room = x.room in
      let empty : (access.count == 0) ≡ false = grind (arith, nat_tests, some) in
      let fits : nat_le (access.offset - start window + access.count) (size_of rom window) ≡ true = grind (arith, nat_tests, room) in
      let inside : lies_inside past i rom access (window_at access.offset) ≡ true =
      ap (lies_inside past i rom access) x.found ∙ (ap (λ b. b && nat_le (access.offset - start window + access.count) (size_of rom window)) x.opened ∙ fits) in
      either_zero (is_fifo_write access) (code access.is_lock (access.count == 0) (is_fifo access.offset) (lies_inside past i rom access (window_at access.offset)) (has_direction past i access (window_at access.offset)))
      (code_zero access.is_lock (access.count == 0) (is_fifo access.offset) _ _ x.lock empty x.fifo inside (ap (has_direction past i access) x.found ∙ x.way))

  -- what is given has the size that was asked for
  pub complete_read : (s : InitiatorState) → IsReadBy past i s → access.is_lock ≡ false → access.is_write ≡ false → IsSaid past i access (window_at access.offset) → (host_reply past i access).rcode ≡ 0 → length (host_reply past i access).given ≡ access.count
  complete_read s known lock write is_said complete =
      let out = replicate access.count 0 in
      let r : IsReadOf access out = record { lock = lock; write = write; size = length-replicate access.count 0 } in
      let zero_there : (read_step s.lists.memory access.offset out).0 ≡ 0 = known.read_rcode access out r ∙ (sym (read_code past i access write) ∙ complete) in
      ap (λ xs. length xs) (sym (known.gives access out r is_said zero_there)) ∙ (read_long s.lists.memory access.offset out ∙ length-replicate access.count 0)

-- a write of a block to a FIFO
pub fifo_complete : (past : List Moment) (i : ℕ) (access : Access) → is_fifo_write access ≡ true → access.is_write ≡ true → IsComplete past i access
fifo_complete past i access fifo write = record {
  rcode = ap (λ b. cond b 0 (code access.is_lock (access.count == 0) (is_fifo access.offset) (lies_inside past i (rom_size (suc i) 0) access (window_at access.offset)) (has_direction past i access (window_at access.offset)))) fifo;
  size = λ reads. absurd (let no : true ≡ false = sym write ∙ reads in cc);
}
