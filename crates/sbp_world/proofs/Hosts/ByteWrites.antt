-- What a write that an initiator's memory is asked for leaves of its page tables and its buffers.
use Rattle.sbp_world.proofs.Words.Std.{arith, ◌≡◌, refl, sym, ap, ◌∙◌, ℕ, ◌+◌, ◌-◌, ◌<◌, ◌≤◌, ◌==◌, ◌||◌, nat_le, nat_lt, Bool, true, false, cond, List, length, Option, Some, None, Ok, Err, nat_tests}
use Rattle.sbp_world.proofs.Words.Initiator.{judged, judged_at, spot_of, takes_writes, write_at, write_step, IsFound, IsWhole, Memory, is_written, patch, slot_at, with_bytes, is_fifo, start, Rcode, AddressError, TypeError, Spot, Window}
use Rattle.sbp_world.proofs.Words.Laws.{data_at, or_byte}
use Rattle.sbp_world.proofs.Words.World.{byte_from}
use Rattle.std.proofs.Common.{slice_index_or}
use Rattle.bus_memory.specs.declared.access.Access.TheVariants.{Write}
use Rattle.bus_memory.specs.declared.window.Window.TheVariants as windows
use Rattle.bus_memory.proofs.Found.{window_law}
use Rattle.bus_memory.proofs.Written.{patch_byte}
use Rattle.sbp_world.proofs.Hosts.ByteFills.{set_in}
use Rattle.sbp_world.proofs.Hosts.ByteLists.{is_in, no_byte}
use Rattle.sbp_world.proofs.Common.{untrue}

-- what is left, by the rcode and the memory
pub record Wrote (m : Memory) (offset : ℕ) (bytes : List ℕ) (r : ℕ × Memory) : Type 0 where
  pub tables : (k : ℕ) → (slot_at r.1 k).table ≡ (slot_at m k).table
  pub buffers : (k j : ℕ) → k < 32 → j < 32768 → slice_index_or (slot_at r.1 k).buffer j 0 ≡ or_byte (cond (r.0 == 0) (byte_from (start (windows.Buffer k) + j) offset bytes) None) (slice_index_or (slot_at m k).buffer j 0)
  -- the buffer of a slot stays where its target reads it
  pub reads : (k j : ℕ) → k < 32 → j < 32768 → is_written (slot_at m k) ≡ false → slice_index_or (slot_at r.1 k).buffer j 0 ≡ slice_index_or (slot_at m k).buffer j 0

-- bytes that do not reach an address
pub none_from : (address offset : ℕ) (bytes : List ℕ) → (offset ≤ address → length bytes ≤ address - offset) → byte_from address offset bytes ≡ None
none_from address offset bytes h = by_order (nat_le offset address) refl
  where
    by_order : (b : Bool) → nat_le offset address ≡ b → cond b (data_at (Some (address - offset)) bytes) None ≡ None
    by_order true e = no_byte (address - offset) bytes (h (grind (arith, nat_tests)))
    by_order false e = refl

-- bytes in a buffer
patched : (old : List ℕ) (base at j offset : ℕ) (bytes : List ℕ) → base + at ≡ offset → at + length bytes ≤ length old → slice_index_or (patch old at bytes) j 0 ≡ or_byte (byte_from (base + j) offset bytes) (slice_index_or old j 0)
patched old base at j offset bytes is room = by_order (nat_le offset (base + j)) refl
  where
    as_patched : (b : Bool) → is_in at (length bytes) j ≡ b → slice_index_or (patch old at bytes) j 0 ≡ cond b (slice_index_or bytes (j - at) 0) (slice_index_or old j 0)
    as_patched b e = patch_byte old at bytes j room ∙ ap (λ c. cond c (slice_index_or bytes (j - at) 0) (slice_index_or old j 0)) e

    by_length : nat_le offset (base + j) ≡ true → (b : Bool) → nat_lt (base + j - offset) (length bytes) ≡ b → slice_index_or (patch old at bytes) j 0 ≡ or_byte (cond b (Some (slice_index_or bytes (base + j - offset) 0)) None) (slice_index_or old j 0)
    by_length e true f =
        let low : offset ≤ base + j = grind (arith, nat_tests) in
        let short : base + j - offset < length bytes = grind (arith, nat_tests) in
        let a : at ≤ j = omega arith in
        let b : j < at + length bytes = omega arith in
        let inside : is_in at (length bytes) j ≡ true = grind (arith, nat_tests) in
        as_patched true inside ∙ ap (λ n. slice_index_or bytes n 0) (let k : j - at ≡ base + j - offset = omega arith in k)
    by_length e false f =
        let low : offset ≤ base + j = grind (arith, nat_tests) in
        let long : length bytes ≤ base + j - offset = grind (arith, nat_tests) in
        let b : at + length bytes ≤ j = omega arith in
        let away : is_in at (length bytes) j ≡ false = grind (arith, nat_tests) in
        as_patched false away

    by_order : (b : Bool) → nat_le offset (base + j) ≡ b → slice_index_or (patch old at bytes) j 0 ≡ or_byte (cond b (data_at (Some (base + j - offset)) bytes) None) (slice_index_or old j 0)
    by_order true e = by_length e (nat_lt (base + j - offset) (length bytes)) refl
    by_order false e =
        let low : base + j < offset = grind (arith, nat_tests) in
        let b : j < at = omega arith in
        let away : is_in at (length bytes) j ≡ false = grind (arith, nat_tests) in
        as_patched false away

module _ (m : Memory) (offset : ℕ) (bytes : List ℕ) (whole : IsWhole m) where
  -- one that is refused
  refused : (rcode : Rcode) → Wrote m offset bytes (write_at m bytes (Err rcode))
  refused TypeError = record { tables = λ k. refl; buffers = λ k j b c. refl; reads = λ k j b c e. refl }
  refused AddressError = record { tables = λ k. refl; buffers = λ k j b c. refl; reads = λ k j b c e. refl }

  -- of another slot
  other_none : (b k j : ℕ) → (b == k) ≡ false → j < 32768 → start (windows.Buffer b) ≤ offset → offset + length bytes ≤ start (windows.Buffer b) + 32768 → byte_from (start (windows.Buffer k) + j) offset bytes ≡ None
  other_none b k j e c begins ends = none_from (start (windows.Buffer k) + j) offset bytes (by_order (nat_lt b k) refl)
    where
      by_order : (d : Bool) → nat_lt b k ≡ d → offset ≤ start (windows.Buffer k) + j → length bytes ≤ start (windows.Buffer k) + j - offset
      by_order true f h = let below : b + 1 ≤ k = grind (arith, nat_tests) in omega arith
      by_order false f h = let above : k + 1 ≤ b = grind (arith, nat_tests) in absurd (omega arith)

  into_buffer : (b at : ℕ) → b < 32 → takes_writes m (windows.Buffer b) ≡ true → start (windows.Buffer b) ≤ offset → offset + length bytes ≤ start (windows.Buffer b) + 32768 → start (windows.Buffer b) + at ≡ offset → Wrote m offset bytes (0, with_bytes m (windows.Buffer b) at bytes)
  into_buffer b at small taken begins ends is = record {
    tables = λ k. set_in m (windows.Buffer b) at bytes (windows.Table k) false whole small refl;
    buffers = λ k j c d. by_slot k j d (b == k) refl;
    reads = λ k j c d e. unread k j e (b == k) refl;
  }
    where
      other : (k j : ℕ) → (b == k) ≡ false → slice_index_or (slot_at (with_bytes m (windows.Buffer b) at bytes) k).buffer j 0 ≡ slice_index_or (slot_at m k).buffer j 0
      other k j e = ap (λ xs. slice_index_or xs j 0) (set_in m (windows.Buffer b) at bytes (windows.Buffer k) false whole small e)

      by_slot : (k j : ℕ) → j < 32768 → (c : Bool) → (b == k) ≡ c → slice_index_or (slot_at (with_bytes m (windows.Buffer b) at bytes) k).buffer j 0 ≡ or_byte (byte_from (start (windows.Buffer k) + j) offset bytes) (slice_index_or (slot_at m k).buffer j 0)
      by_slot k j d true e =
          let same : b ≡ k = grind (arith, nat_tests) in
          let room = whole.sizes (windows.Buffer k) in
          let begin : start (windows.Buffer k) + at ≡ offset = omega arith in
          ap (λ xs. slice_index_or xs j 0) (set_in m (windows.Buffer b) at bytes (windows.Buffer k) true whole small e)
          ∙ patched (slot_at m k).buffer (start (windows.Buffer k)) at j offset bytes begin (omega arith)
      by_slot k j d false e =
          other k j e ∙ sym (ap (λ x. or_byte x (slice_index_or (slot_at m k).buffer j 0)) (other_none b k j e d begins ends))

      unread : (k j : ℕ) → is_written (slot_at m k) ≡ false → (c : Bool) → (b == k) ≡ c → slice_index_or (slot_at (with_bytes m (windows.Buffer b) at bytes) k).buffer j 0 ≡ slice_index_or (slot_at m k).buffer j 0
      unread k j f true e =
          let same : k ≡ b = grind (arith, nat_tests) in
          untrue (sym f ∙ (ap (λ n. is_written (slot_at m n)) same ∙ taken))
      unread k j f false e = other k j e

  into_response : (p at : ℕ) → p < 2 → start (windows.Response p) ≤ offset → Wrote m offset bytes (0, with_bytes m (windows.Response p) at bytes)
  into_response p at small begins = record {
    tables = λ k. refl;
    buffers = λ k j b c. sym (ap (λ x. or_byte x (slice_index_or (slot_at m k).buffer j 0)) (none_from (start (windows.Buffer k) + j) offset bytes (λ h. absurd (omega arith))));
    reads = λ k j b c e. refl;
  }

  into_window : (window : Window) (at : ℕ) → takes_writes m window ≡ true → IsFound m offset (length bytes) (Some (record { window = window; at = at })) → Wrote m offset bytes (0, with_bytes m window at bytes)
  into_window windows.Rom at e f = untrue e
  into_window (windows.Orb slot) at e f = untrue e
  into_window (windows.Table slot) at e f = untrue e
  into_window (windows.Buffer slot) at e f = into_buffer slot at f.0.exists e f.0.begins f.0.ends f.2
  into_window (windows.Management place) at e f = untrue e
  into_window (windows.Response place) at e f = into_response place at f.0.exists f.0.begins

  at_spot : (spot : Spot) (taken : Bool) → takes_writes m spot.window ≡ taken → IsFound m offset (length bytes) (Some spot) → Wrote m offset bytes (write_at m bytes (cond taken (Ok spot) (Err TypeError)))
  at_spot spot false e f = refused TypeError
  at_spot spot true e f = into_window spot.window spot.at e f

  at_found : (found : Option Spot) → IsFound m offset (length bytes) found → Wrote m offset bytes (write_at m bytes (judged_at m Write found))
  at_found None f = refused AddressError
  at_found (Some spot) f = at_spot spot (takes_writes m spot.window) refl f

  where_served : (b : Bool) → Wrote m offset bytes (write_at m bytes (cond b (Err TypeError) (judged_at m Write (spot_of m offset (length bytes)))))
  where_served true = refused TypeError
  where_served false = at_found (spot_of m offset (length bytes)) (window_law.no_other m offset (length bytes) whole)

  pub wrote : Wrote m offset bytes (write_step m offset bytes)
  unfolding judged
  wrote = where_served ((length bytes == 0) || is_fifo offset)
