-- The response buffers that the run says an initiator has, and those in its memory: a block write into one is stored in both.
use Rattle.sbp_world.proofs.Words.Std.{arith, ◌≡◌, ◌≢◌, ◌∙◌, refl, sym, ap, subst, ℕ, suc, ◌+◌, ◌-◌, ◌*◌, ◌^◌, ◌%◌, ◌<◌, ◌≤◌, ◌==◌, ◌&&◌, ◌||◌, not, nat_eq, nat_lt, nat_le, Bool, true, false, cond, List, [], ◌∷◌, ◌++◌, length, Option, Some, None, Result, Ok, Err, slice_index_or, slice_set, nat_tests, get_or-set_at, get_or-set_other, set-get_or, take-append-drop}
use Rattle.sbp_world.proofs.Words.Wire.{Access}
use Rattle.sbp_world.proofs.Words.Initiator.{Rcode, TypeError, Spot, PlaceMemory, Window, judged, judged_at, serves, spot_in, spot_of, takes_writes, write_at, write_step, IsWhole, Memory, empty_place, patch, place_at, with_bytes, IfShare, is_fifo, start, window_at, Fifo, fifo_at, is_login_fifo, is_open_login, login_fifo, place_fifo}
use Rattle.sbp_world.proofs.Words.Laws.{stored_in}
use Rattle.sbp_world.proofs.Words.World.{AreBuffers}
use Rattle.std.specs.Prelude.{take, drop}
use Rattle.std.proofs.lemmas.List.{length-set}
use Rattle.bus_memory.specs.declared.access.Access.TheVariants.{Write}
use Rattle.bus_memory.specs.declared.window.Window.TheVariants as windows
use Rattle.bus_memory.proofs.Found.{window_share}
use Rattle.initiator_base.specs.declared.fifos.Fifo.TheVariants as fifos
use Rattle.sbp_world.proofs.Sessions.Places.{Stand}
use Rattle.sbp_world.proofs.Common.{untrue}

-- the buffers are those of a memory whose places stand
pub buffers_stand : (responses : List (List ℕ)) (m n : Memory) → Stand m n → AreBuffers responses m → AreBuffers responses n
buffers_stand responses m n e h = record { size = h.size; each = λ k b. h.each k b ∙ ap (λ places. (slice_index_or places k empty_place).response) (sym e) }

-- ---- no FIFO is in a buffer

fifo_far : (offset : ℕ) → is_fifo offset ≡ true → 0x12002000 ≤ offset
unfolding is_fifo
fifo_far offset e =
    by (offset == 0x12002000) (offset == 0x12002020) (nat_le 0x13000000 offset) (nat_lt offset (0x13000000 + 0x20 * 2 ^ 32)) (offset % 0x20 == 0) refl refl refl e
  where
    by : (a b c d f : Bool) → (offset == 0x12002000) ≡ a → (offset == 0x12002020) ≡ b → nat_le 0x13000000 offset ≡ c → (a || b || ((c && d) && f)) ≡ true → 0x12002000 ≤ offset
    by true b c d f p q r e = grind (arith, nat_tests)
    by false true c d f p q r e = grind (arith, nat_tests)
    by false false true d f p q r e = grind (arith, nat_tests)
    by false false false d f p q r e = untrue e

open_far : (logins : ℕ) (is_out : Bool) (offset : ℕ) → is_open_login logins is_out offset ≡ true → 0x12002000 ≤ offset
open_far logins is_out offset e = by (nat_lt 0 logins) (offset == login_fifo (logins - 1)) (not is_out) refl e
  where
    by : (a b c : Bool) → (offset == login_fifo (logins - 1)) ≡ b → (a && b && c) ≡ true → 0x12002000 ≤ offset
    by true true c q e = let same : offset ≡ login_fifo (logins - 1) = grind (arith, nat_tests) in omega arith
    by true false c q e = untrue e
    by false b c q e = untrue e

closed_far : (offset : ℕ) → is_login_fifo offset ≡ true → 0x12002000 ≤ offset
closed_far offset e = by (nat_le 0x1300_0000 offset) (nat_lt offset 0x20_1300_0000) (offset % 0x20 == 0) refl e
  where
    by : (a b c : Bool) → nat_le 0x1300_0000 offset ≡ a → (a && b && c) ≡ true → 0x12002000 ≤ offset
    by true b c q e = grind (arith, nat_tests)
    by false b c q e = untrue e

pub at_far : (logins : ℕ) (is_out : Bool) (offset : ℕ) (fifo : Fifo) → fifo_at logins is_out offset ≡ Some fifo → 0x12002000 ≤ offset
unfolding fifo_at
at_far logins is_out offset fifo e =
    by (offset == place_fifo 0) (offset == place_fifo 1) (is_open_login logins is_out offset) (is_login_fifo offset) refl refl refl refl e
  where
    by : (a b c d : Bool) → (offset == place_fifo 0) ≡ a → (offset == place_fifo 1) ≡ b → is_open_login logins is_out offset ≡ c → is_login_fifo offset ≡ d → cond (a || b) (Some fifos.Place) (cond c (Some fifos.Login) (cond d (Some fifos.Closed) None)) ≡ Some fifo → 0x12002000 ≤ offset
    by true b c d p q r s f = grind (arith, nat_tests)
    by false true c d p q r s f = grind (arith, nat_tests)
    by false false true d p q r s f = open_far logins is_out offset r
    by false false false true p q r s f = closed_far offset s
    by false false false false p q r s f = absurd (let differ : None ≡ Some fifo = f in cc)

module _ (access : Access) (responses : List (List ℕ)) where
  far_in : (found : Option Window) → IfShare access.offset found → 0x12002000 ≤ access.offset → stored_in found access responses ≡ responses
  far_in None s far = refl
  far_in (Some windows.Rom) s far = refl
  far_in (Some (windows.Orb slot)) s far = refl
  far_in (Some (windows.Table slot)) s far = refl
  far_in (Some (windows.Buffer slot)) s far = refl
  far_in (Some (windows.Management place)) s far = refl
  far_in (Some (windows.Response place)) s far = by (nat_le (access.offset - start (windows.Response place) + access.count) 256) refl
    where
      by : (b : Bool) → nat_le (access.offset - start (windows.Response place) + access.count) 256 ≡ b → cond b (slice_set responses place (patch (slice_index_or responses place []) (access.offset - start (windows.Response place)) access.payload)) responses ≡ responses
      by true e =
          let small : access.offset - start (windows.Response place) + access.count ≤ 256 = grind (arith, nat_tests) in
          let two : place < 2 = s.0 in
          absurd (omega arith)
      by false e = refl

  pub stored_far : 0x12002000 ≤ access.offset → stored_in (window_at access.offset) access responses ≡ responses
  stored_far far = far_in (window_at access.offset) (window_share access.offset) far

-- ---- a write

patch_none : (old : List ℕ) (at : ℕ) → patch old at [] ≡ old
patch_none old at = ap (λ (n : ℕ). take at old ++ drop n old) (let e : at + 0 ≡ at = omega arith in e) ∙ take-append-drop at old

module _ (m : Memory) (whole : IsWhole m) (offset : ℕ) (payload : List ℕ) (responses : List (List ℕ)) (h : AreBuffers responses m) where
  abbrev access : Access
  access = record { is_lock = false; is_write = true; is_block = true; offset = offset; count = length payload; payload = payload }

  abbrev After : Option Window → Result Spot Rcode → Type 0
  After found r = AreBuffers (stored_in found access responses) (write_at m payload r).1

  -- the buffers of the run with one of them patched, and the memory with it
  sets : (k : ℕ) → k < 2 → AreBuffers (slice_set responses k (patch (slice_index_or responses k []) (offset - start (windows.Response k)) payload)) (with_bytes m (windows.Response k) (offset - start (windows.Response k)) payload)
  sets k b =
      let at = offset - start (windows.Response k) in
      let places = whole.places in
      let size = h.size in
      record {
        size = length-set responses k (patch (slice_index_or responses k []) at payload) ∙ h.size;
        each = λ j c. by j c (nat_eq j k) refl;
      }
    where
      by : (j : ℕ) → j < 2 → (same : Bool) → nat_eq j k ≡ same → slice_index_or (slice_set responses k (patch (slice_index_or responses k []) (offset - start (windows.Response k)) payload)) j [] ≡ (place_at (with_bytes m (windows.Response k) (offset - start (windows.Response k)) payload) j).response
      by j c true e =
          let at = offset - start (windows.Response k) in
          let same : j ≡ k = grind (arith, nat_tests) in
          let size = h.size in
          let places = whole.places in
          get_or-set_at responses k j (patch (slice_index_or responses k []) at payload) [] same (omega arith)
          ∙ ap (λ (x : List ℕ). patch x at payload) (h.each k b)
          ∙ ap (λ (p : PlaceMemory). p.response) (sym (get_or-set_at m.places k j (record (place_at m k) { response = patch (place_at m k).response at payload }) empty_place same (omega arith)))
      by j c false e =
          let at = offset - start (windows.Response k) in
          let apart : j ≢ k = λ same. (let yes : nat_eq j k ≡ true = grind (arith, nat_tests) in absurd (let no : false ≡ true = sym e ∙ yes in cc)) in
          get_or-set_other responses k j (patch (slice_index_or responses k []) at payload) [] apart
          ∙ h.each j c
          ∙ ap (λ (p : PlaceMemory). p.response) (sym (get_or-set_other m.places k j (record (place_at m k) { response = patch (place_at m k).response at payload }) empty_place apart))

  -- a window that is none of them: its write is refused, or leaves the places
  pick_spot : (b : Bool) (spot : Spot) → Stand m (write_at m payload (Ok spot)).1 → AreBuffers responses (write_at m payload (judged_at m Write (cond b (Some spot) None))).1
  pick_spot true spot e = serve (serves m Write spot.window)
    where
      serve : (d : Bool) → AreBuffers responses (write_at m payload (cond d (Ok spot) (Err TypeError))).1
      serve true = buffers_stand responses m (write_at m payload (Ok spot)).1 e h
      serve false = h
  pick_spot false spot e = h

  -- a window that takes no writes
  keeps_spot : (b : Bool) (spot : Spot) → takes_writes m spot.window ≡ false → AreBuffers responses (write_at m payload (judged_at m Write (cond b (Some spot) None))).1
  keeps_spot true spot e = subst (λ d. AreBuffers responses (write_at m payload (cond d (Ok spot) (Err TypeError))).1) (sym e) h
  keeps_spot false spot e = h

  stores_in : (found : Option Window) → IfShare offset found → After found (judged_at m Write (spot_in m offset (length payload) found))
  stores_in None s = h
  stores_in (Some windows.Rom) s = keeps_spot _ _ refl
  stores_in (Some (windows.Orb slot)) s = keeps_spot _ _ refl
  stores_in (Some (windows.Table slot)) s = keeps_spot _ _ refl
  stores_in (Some (windows.Buffer slot)) s = pick_spot _ _ refl
  stores_in (Some (windows.Management place)) s = keeps_spot _ _ refl
  stores_in (Some (windows.Response place)) s = by (nat_le (offset - start (windows.Response place) + length payload) 256) refl
    where
      size_is : length (place_at m place).response ≡ 256
      size_is = whole.sizes (windows.Response place)

      by : (b : Bool) → nat_le (offset - start (windows.Response place) + length payload) 256 ≡ b → After (Some (windows.Response place)) (judged_at m Write (spot_in m offset (length payload) (Some (windows.Response place))))
      by true e =
          let inside : nat_le (offset - start (windows.Response place) + length payload) (length (place_at m place).response) ≡ true = ap (nat_le (offset - start (windows.Response place) + length payload)) size_is ∙ e in
          subst (λ b. AreBuffers (cond b (slice_set responses place (patch (slice_index_or responses place []) (offset - start (windows.Response place)) payload)) responses) (write_at m payload (judged_at m Write (spot_in m offset (length payload) (Some (windows.Response place))))).1) (sym e)
          (subst (λ b. AreBuffers (slice_set responses place (patch (slice_index_or responses place []) (offset - start (windows.Response place)) payload)) (write_at m payload (judged_at m Write (cond b (Some (record { window = windows.Response place; at = offset - start (windows.Response place) })) None))).1) (sym inside)
          (sets place s.0))
      by false e =
          let outside : nat_le (offset - start (windows.Response place) + length payload) (length (place_at m place).response) ≡ false = ap (nat_le (offset - start (windows.Response place) + length payload)) size_is ∙ e in
          subst (λ b. AreBuffers (cond b (slice_set responses place (patch (slice_index_or responses place []) (offset - start (windows.Response place)) payload)) responses) (write_at m payload (judged_at m Write (spot_in m offset (length payload) (Some (windows.Response place))))).1) (sym e)
          (subst (λ b. AreBuffers responses (write_at m payload (judged_at m Write (cond b (Some (record { window = windows.Response place; at = offset - start (windows.Response place) })) None))).1) (sym outside) h)

  -- an empty write leaves them
  empty_in : (found : Option Window) → length payload ≡ 0 → AreBuffers (stored_in found access responses) m
  empty_in None e = h
  empty_in (Some windows.Rom) e = h
  empty_in (Some (windows.Orb slot)) e = h
  empty_in (Some (windows.Table slot)) e = h
  empty_in (Some (windows.Buffer slot)) e = h
  empty_in (Some (windows.Management place)) e = h
  empty_in (Some (windows.Response place)) e = by (nat_le (offset - start (windows.Response place) + length payload) 256)
    where
      none_is : (xs : List ℕ) → length xs ≡ 0 → xs ≡ []
      none_is [] z = refl
      none_is (x ∷ xs) z = absurd (let no : suc (length xs) ≡ 0 = z in omega arith)

      unchanged : slice_set responses place (patch (slice_index_or responses place []) (offset - start (windows.Response place)) payload) ≡ responses
      unchanged =
          ap (λ (x : List ℕ). slice_set responses place (patch (slice_index_or responses place []) (offset - start (windows.Response place)) x)) (none_is payload e)
          ∙ ap (slice_set responses place) (patch_none (slice_index_or responses place []) (offset - start (windows.Response place)))
          ∙ set-get_or responses place []

      by : (b : Bool) → AreBuffers (cond b (slice_set responses place (patch (slice_index_or responses place []) (offset - start (windows.Response place)) payload)) responses) m
      by true = subst (λ x. AreBuffers x m) (sym unchanged) h
      by false = h

  pub writes : AreBuffers (stored_in (window_at offset) access responses) (write_step m offset payload).1
  unfolding judged spot_of
  writes = by (length payload == 0) (is_fifo offset) refl refl
    where
      by : (a b : Bool) → (length payload == 0) ≡ a → is_fifo offset ≡ b → AreBuffers (stored_in (window_at offset) access responses) (write_at m payload (cond (a || b) (Err TypeError) (judged_at m Write (spot_in m offset (length payload) (window_at offset))))).1
      by true b e f = empty_in (window_at offset) (let z : length payload ≡ 0 = grind (arith, nat_tests) in z)
      by false true e f = subst (λ x. AreBuffers x m) (sym (stored_far access responses (fifo_far offset f))) h
      by false false e f = stores_in (window_at offset) (window_share offset)
