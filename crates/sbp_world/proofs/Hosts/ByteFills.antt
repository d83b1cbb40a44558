-- What a request that is written into a slot leaves of the page tables and the buffers of a memory.
use Rattle.sbp_world.proofs.Words.Std.{arith, ◌≡◌, refl, sym, ap, ◌∙◌, ℕ, ◌+◌, ◌-◌, ◌*◌, ◌<◌, ◌≤◌, ◌&&◌, nat_le, nat_lt, Bool, true, false, cond, sum, List, [], ◌∷◌, ◌++◌, length, take, drop, Option, Some, None, nat_tests, get_or-take}
use Rattle.sbp_world.proofs.Words.Wire.{Cmd}
use Rattle.sbp_world.proofs.Words.Initiator.{IsWhole, is_same, Memory, bytes_in, patch, slot_at, with_armed, with_bytes, IsWindow, start, Window, command_bytes, behind, data_in_segments, data_written, orb_of, table_bytes, written, Asked, IsRequest, asked_by}
use Rattle.sbp_world.proofs.Words.Laws.{byte_of, data_at, in_front, or_byte}
use Rattle.std.proofs.Common.{slice_index_or, length-take}
use Rattle.bus_memory.specs.declared.window.Window.TheVariants as windows
use Rattle.bus_memory.proofs.Written.{armed_keeps, patch_byte, whole_armed, whole_set, window_set}
use Rattle.orb_list.proofs.Spelled.{Parts, parts}
use Rattle.sbp_world.proofs.Hosts.ByteLists.{data_before, data_in, data_laid, data_of, is_in}
use Rattle.sbp_world.proofs.Common.{same_number}
use Rattle.sbp_world.proofs.Hosts.BytePlaces.{total}

-- ---- bytes that are set in a window

pub set_in : (m : Memory) (window : Window) (at : ℕ) (bytes : List ℕ) (asked : Window) (b : Bool) → IsWhole m → IsWindow window → is_same window asked ≡ b → bytes_in (with_bytes m window at bytes) asked ≡ cond b (patch (bytes_in m asked) at bytes) (bytes_in m asked)
set_in m window at bytes asked b whole w e =
    window_set m window at bytes asked whole.slots whole.places w ∙ ap (λ c. cond c (patch (bytes_in m asked) at bytes) (bytes_in m asked)) e

-- ---- data in segments

-- a byte of one segment, and of those behind it
segment_byte : (old : List ℕ) (at count : ℕ) (payload : List ℕ) (j : ℕ) (others : Option ℕ) → at + count ≤ length old → (is_in at count j ≡ true → others ≡ None) → or_byte others (slice_index_or (patch old at (take count payload)) j 0) ≡ or_byte (cond (is_in at count j) (data_at (Some (j - at)) payload) others) (slice_index_or old j 0)
segment_byte old at count payload j others room none = by_inside (is_in at count j) refl
  where
    few : length (take count payload) ≤ count
    few = simp length-take (omega arith)

    patched : (b : Bool) → is_in at (length (take count payload)) j ≡ b → slice_index_or (patch old at (take count payload)) j 0 ≡ cond b (slice_index_or (take count payload) (j - at) 0) (slice_index_or old j 0)
    patched b e = let l = few in patch_byte old at (take count payload) j (omega arith) ∙ ap (λ c. cond c (slice_index_or (take count payload) (j - at) 0) (slice_index_or old j 0)) e

    within : j - at < count → j - at < length payload → j - at < length (take count payload)
    within b l = simp length-take (omega arith)

    beyond : length payload ≤ j - at → length (take count payload) ≤ j - at
    beyond l = simp length-take (omega arith)

    by_short : is_in at count j ≡ true → (c : Bool) → nat_lt (j - at) (length payload) ≡ c → slice_index_or (patch old at (take count payload)) j 0 ≡ or_byte (cond c (Some (slice_index_or payload (j - at) 0)) None) (slice_index_or old j 0)
    by_short e true g =
        let low : at ≤ j = grind (arith, nat_tests) in
        let b : j - at < count = grind (arith, nat_tests) in
        let w = within b (grind (arith, nat_tests)) in
        let inside : is_in at (length (take count payload)) j ≡ true = grind (arith, nat_tests) in
        patched true inside ∙ get_or-take count payload (j - at) 0 b
    by_short e false g =
        let low : at ≤ j = grind (arith, nat_tests) in
        let w = beyond (grind (arith, nat_tests)) in
        let away : is_in at (length (take count payload)) j ≡ false = grind (arith, nat_tests) in
        patched false away

    by_inside : (b : Bool) → is_in at count j ≡ b → or_byte others (slice_index_or (patch old at (take count payload)) j 0) ≡ or_byte (cond (is_in at count j) (data_at (Some (j - at)) payload) others) (slice_index_or old j 0)
    by_inside true e =
        ap (λ x. or_byte x (slice_index_or (patch old at (take count payload)) j 0)) (none e)
        ∙ (by_short e (nat_lt (j - at) (length payload)) refl
        ∙ sym (ap (λ c. or_byte (cond c (data_at (Some (j - at)) payload) others) (slice_index_or old j 0)) e))
    by_inside false e =
        let l = few in
        let away : is_in at (length (take count payload)) j ≡ false = grind (arith, nat_tests) in
        ap (or_byte others) (patched false away)
        ∙ sym (ap (λ c. or_byte (cond c (data_at (Some (j - at)) payload) others) (slice_index_or old j 0)) e)

segments_byte : (m : Memory) (slot at : ℕ) (counts payload : List ℕ) (j : ℕ) → IsWhole m → slot < 32 → at + sum counts + 19 * length counts ≤ 32768 → slice_index_or (slot_at (data_in_segments m slot at counts payload) slot).buffer j 0 ≡ or_byte (data_in at counts payload j) (slice_index_or (slot_at m slot).buffer j 0)
segments_byte m slot at [] payload j whole s h = refl
segments_byte m slot at (count ∷ rest) payload j whole s h =
    let e = total count rest in
    let l : length (take count payload) ≤ count = simp length-take (omega arith) in
    let old = (slot_at m slot).buffer in
    let room = whole.sizes (windows.Buffer slot) in
    let others = data_in (behind at count) rest (drop count payload) j in
    segments_byte (with_bytes m (windows.Buffer slot) at (take count payload)) slot (behind at count) rest (drop count payload) j (whole_set m (windows.Buffer slot) at (take count payload) whole s (omega arith)) s (omega arith)
    ∙ (ap (λ xs. or_byte others (slice_index_or xs j 0)) (set_in m (windows.Buffer slot) at (take count payload) (windows.Buffer slot) true whole s (same_number slot))
    ∙ segment_byte old at count payload j others (omega arith) (λ i. data_before (behind at count) rest (drop count payload) j (let k : j < at + count = grind (arith, nat_tests) in omega arith)))

segments_keep : (m : Memory) (slot at : ℕ) (counts payload : List ℕ) (asked : Window) → IsWhole m → slot < 32 → at + sum counts + 19 * length counts ≤ 32768 → is_same (windows.Buffer slot) asked ≡ false → bytes_in (data_in_segments m slot at counts payload) asked ≡ bytes_in m asked
segments_keep m slot at [] payload asked whole s h f = refl
segments_keep m slot at (count ∷ rest) payload asked whole s h f =
    let e = total count rest in
    let l : length (take count payload) ≤ count = simp length-take (omega arith) in
    segments_keep (with_bytes m (windows.Buffer slot) at (take count payload)) slot (behind at count) rest (drop count payload) asked (whole_set m (windows.Buffer slot) at (take count payload) whole s (omega arith)) s (omega arith) f
    ∙ set_in m (windows.Buffer slot) at (take count payload) asked false whole s f

-- ---- data in a buffer

plain_byte : (old payload : List ℕ) (j : ℕ) → length payload ≤ length old → slice_index_or (patch old 0 payload) j 0 ≡ or_byte (data_at (Some j) payload) (slice_index_or old j 0)
plain_byte old payload j room = by_short (nat_lt j (length payload)) refl
  where
    by_short : (b : Bool) → nat_lt j (length payload) ≡ b → slice_index_or (patch old 0 payload) j 0 ≡ or_byte (cond b (Some (slice_index_or payload j 0)) None) (slice_index_or old j 0)
    by_short true e =
        let inside : (nat_le 0 j && nat_lt j (0 + length payload)) ≡ true = grind (arith, nat_tests) in
        patch_byte old 0 payload j (omega arith)
        ∙ (ap (λ c. cond c (slice_index_or payload (j - 0) 0) (slice_index_or old j 0)) inside
        ∙ ap (λ n. slice_index_or payload n 0) (let k : j - 0 ≡ j = omega arith in k))
    by_short false e =
        let away : (nat_le 0 j && nat_lt j (0 + length payload)) ≡ false = grind (arith, nat_tests) in
        patch_byte old 0 payload j (omega arith) ∙ ap (λ c. cond c (slice_index_or payload (j - 0) 0) (slice_index_or old j 0)) away

data_byte : (m : Memory) (slot : ℕ) (segments payload : List ℕ) (j : ℕ) → IsWhole m → slot < 32 → length payload ≤ 16384 → sum segments ≤ 16384 → length segments ≤ 64 → slice_index_or (slot_at (data_written m slot segments payload) slot).buffer j 0 ≡ or_byte (data_of segments payload j) (slice_index_or (slot_at m slot).buffer j 0)
data_byte m slot [] payload j whole s p h l =
    let room = whole.sizes (windows.Buffer slot) in
    ap (λ xs. slice_index_or xs j 0) (set_in m (windows.Buffer slot) 0 payload (windows.Buffer slot) true whole s (same_number slot))
    ∙ plain_byte (slot_at m slot).buffer payload j (omega arith)
data_byte m slot (count ∷ rest) payload j whole s p h l = segments_byte m slot 0 (count ∷ rest) payload j whole s (omega arith)

data_keeps : (m : Memory) (slot : ℕ) (segments payload : List ℕ) (asked : Window) → IsWhole m → slot < 32 → sum segments ≤ 16384 → length segments ≤ 64 → is_same (windows.Buffer slot) asked ≡ false → bytes_in (data_written m slot segments payload) asked ≡ bytes_in m asked
data_keeps m slot [] payload asked whole s h l f = set_in m (windows.Buffer slot) 0 payload asked false whole s f
data_keeps m slot (count ∷ rest) payload asked whole s h l f = segments_keep m slot 0 (count ∷ rest) payload asked whole s (omega arith) f

-- ---- a whole request

module _ (m : Memory) (slot : ℕ) (cmd : Cmd) (node login : ℕ) (whole : IsWhole m) (s : slot < 32) (q : IsRequest (asked_by cmd node login)) where
  abbrev request : Asked
  request = asked_by cmd node login

  abbrev armed : Memory
  armed = with_armed m slot true

  abbrev with_orb : Memory
  with_orb = with_bytes armed (windows.Orb slot) 0 (command_bytes (orb_of request slot))

  abbrev with_table : Memory
  with_table = with_bytes with_orb (windows.Table slot) 0 (table_bytes slot 0 cmd.segments)

  armed_whole : IsWhole armed
  armed_whole = whole_armed m slot true whole s

  wholes : Parts m slot request
  wholes = parts m slot request whole s q

  small : sum cmd.segments ≤ 16384
  small = let a = q.whole in let b = q.short in omega arith

  -- what stood there before its ORB
  orb_keeps : (asked : Window) → is_same (windows.Orb slot) asked ≡ false → bytes_in with_orb asked ≡ bytes_in m asked
  orb_keeps asked f = set_in armed (windows.Orb slot) 0 (command_bytes (orb_of request slot)) asked false armed_whole s f ∙ armed_keeps m slot true asked whole.slots s

  table_keeps : (asked : Window) → is_same (windows.Orb slot) asked ≡ false → is_same (windows.Table slot) asked ≡ false → bytes_in with_table asked ≡ bytes_in m asked
  table_keeps asked f g = set_in with_orb (windows.Table slot) 0 (table_bytes slot 0 cmd.segments) asked false wholes.orb_whole s g ∙ orb_keeps asked f

  pub written_keeps : (asked : Window) → is_same (windows.Orb slot) asked ≡ false → is_same (windows.Table slot) asked ≡ false → is_same (windows.Buffer slot) asked ≡ false → bytes_in (written m slot request) asked ≡ bytes_in m asked
  written_keeps asked f g h = data_keeps with_table slot cmd.segments cmd.payload asked wholes.table_whole s small q.segments h ∙ table_keeps asked f g

  pub written_table : (slot_at (written m slot request) slot).table ≡ in_front (table_bytes slot 0 cmd.segments) (slot_at m slot).table
  written_table =
      let table = table_bytes slot 0 cmd.segments in
      data_keeps with_table slot cmd.segments cmd.payload (windows.Table slot) wholes.table_whole s small q.segments refl
      ∙ (set_in with_orb (windows.Table slot) 0 table (windows.Table slot) true wholes.orb_whole s (same_number slot)
      ∙ (ap (λ xs. patch xs 0 table) (orb_keeps (windows.Table slot) refl)
      ∙ ap (λ n. table ++ drop n (slot_at m slot).table) (let e : 0 + length table ≡ length table = omega arith in e)))

  pub written_byte : (j : ℕ) → slice_index_or (slot_at (written m slot request) slot).buffer j 0 ≡ or_byte (byte_of slot (start (windows.Buffer slot) + j) (Some cmd)) (slice_index_or (slot_at m slot).buffer j 0)
  written_byte j =
      let a = q.payload in
      let b = q.short in
      data_byte with_table slot cmd.segments cmd.payload j wholes.table_whole s (omega arith) small q.segments
      ∙ (ap (λ xs. or_byte (data_of cmd.segments cmd.payload j) (slice_index_or xs j 0)) (table_keeps (windows.Buffer slot) refl refl)
      ∙ ap (λ x. or_byte x (slice_index_or (slot_at m slot).buffer j 0)) (sym (data_laid slot cmd cmd.segments cmd.payload j q.payload)))
