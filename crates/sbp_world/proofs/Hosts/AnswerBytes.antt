-- The answer that stands in a buffer, byte by byte.
use Rattle.sbp_world.proofs.Words.Std.{arith, ◌≡◌, refl, sym, ◌∙◌, ap, ℕ, ◌+◌, ◌-◌, ◌*◌, ◌<◌, ◌≤◌, ◌==◌, nat_lt, Bool, true, false, cond, sum, List, [], ◌∷◌, ◌++◌, length, map, take, drop, length-append, get_or-append, get_or-append_right, nat_tests, drop-drop, ext_get_or, get_or-take, length-map}
use Rattle.sbp_world.proofs.Words.Wire.{Cmd}
use Rattle.sbp_world.proofs.Words.Initiator.{start, behind, answer_by, answer_in, in_segments, buffer_addresses, plan_of}
use Rattle.sbp_world.proofs.Words.Laws.{laid_out}
use Rattle.std.proofs.Common.{slice_index_or}
use Rattle.std.proofs.lemmas.List.{get_or-map}
use Rattle.bus_memory.specs.declared.window.Window.TheVariants as windows
use Rattle.sbp_world.proofs.Hosts.BytePlaces.{FillsSegments, laid_at, laid_room, place_in, place_of, total}
use Rattle.sbp_world.proofs.Hosts.ByteReads.{part_at, part_length}

-- ---- the bytes of segments

abbrev room : ℕ → List ℕ → List ℕ → Type 0
room at counts buffer = at + sum counts + 19 * length counts ≤ length buffer

behind_zero : (at count : ℕ) (buffer : List ℕ) → drop (behind 0 count) (drop at buffer) ≡ drop (behind at count) buffer
behind_zero at count buffer = drop-drop (behind 0 count) at buffer ∙ ap (λ n. drop n buffer) (let e : at + behind 0 count ≡ behind at count = omega arith in e)

segments_length : (at : ℕ) (counts buffer : List ℕ) → room at counts buffer → length (in_segments (drop at buffer) counts) ≡ sum counts
segments_length at [] buffer h = refl
segments_length at (count ∷ rest) buffer h =
    let t = total count rest in
    let front : length (take count (drop at buffer)) ≡ count = part_length count at buffer (omega arith) in
    let later : length (in_segments (drop (behind 0 count) (drop at buffer)) rest) ≡ sum rest = ap (λ xs. length (in_segments xs rest)) (behind_zero at count buffer) ∙ segments_length (behind at count) rest buffer (omega arith) in
    length-append (take count (drop at buffer)) (in_segments (drop (behind 0 count) (drop at buffer)) rest) ∙ omega arith

segments_at : (at : ℕ) (counts buffer : List ℕ) (p : ℕ) → p < sum counts → room at counts buffer → slice_index_or (in_segments (drop at buffer) counts) p 0 ≡ slice_index_or buffer (place_in at counts p) 0
segments_at at [] buffer p b h = absurd (omega arith)
segments_at at (count ∷ rest) buffer p b h = by_segment (λ c d. segments_at (behind at count) rest buffer (p - count) c d) (nat_lt p count) refl
  where
    by_segment : (p - count < sum rest → room (behind at count) rest buffer → slice_index_or (in_segments (drop (behind at count) buffer) rest) (p - count) 0 ≡ slice_index_or buffer (place_in (behind at count) rest (p - count)) 0) → (c : Bool) → nat_lt p count ≡ c → slice_index_or (take count (drop at buffer) ++ in_segments (drop (behind 0 count) (drop at buffer)) rest) p 0 ≡ slice_index_or buffer (cond c (at + p) (place_in (behind at count) rest (p - count))) 0
    by_segment later true e =
        let q : p < count = grind (arith, nat_tests) in
        let t = total count rest in
        let front : length (take count (drop at buffer)) ≡ count = part_length count at buffer (omega arith) in
        get_or-append (take count (drop at buffer)) (in_segments (drop (behind 0 count) (drop at buffer)) rest) 0 p (omega arith) ∙ part_at count at p buffer q
    by_segment later false e =
        let q : count ≤ p = grind (arith, nat_tests) in
        let t = total count rest in
        let front : length (take count (drop at buffer)) ≡ count = part_length count at buffer (omega arith) in
        get_or-append_right (take count (drop at buffer)) (in_segments (drop (behind 0 count) (drop at buffer)) rest) p 0 (omega arith)
        ∙ (ap (λ n. slice_index_or (in_segments (drop (behind 0 count) (drop at buffer)) rest) (p - n) 0) front
        ∙ (ap (λ xs. slice_index_or (in_segments xs rest) (p - count) 0) (behind_zero at count buffer) ∙ later (omega arith) (omega arith)))

-- ---- those of a command

module _ (cmd : Cmd) (buffer : List ℕ) (size : length buffer ≡ 32768) where
  in_length : (segments : List ℕ) → FillsSegments cmd segments → length (answer_in buffer cmd.length segments) ≡ cmd.length
  in_length [] f = let s = f.short in part_length cmd.length 0 buffer (omega arith)
  in_length (count ∷ rest) f =
      let t : sum (count ∷ rest) ≡ cmd.length = f.whole (omega arith) in
      let s = f.short in
      let l = f.few in
      segments_length 0 (count ∷ rest) buffer (omega arith) ∙ t

  in_at : (segments : List ℕ) → FillsSegments cmd segments → (p : ℕ) → p < cmd.length → slice_index_or (answer_in buffer cmd.length segments) p 0 ≡ slice_index_or buffer (place_of segments p) 0
  in_at [] f p b = get_or-take cmd.length buffer p 0 b
  in_at (count ∷ rest) f p b =
      let t : sum (count ∷ rest) ≡ cmd.length = f.whole (omega arith) in
      let s = f.short in
      let l = f.few in
      segments_at 0 (count ∷ rest) buffer p (omega arith) (omega arith)

  module _ (slot : ℕ) (byte : ℕ → ℕ) (filled : FillsSegments cmd cmd.segments) (whole : length (buffer_addresses (laid_out slot cmd cmd.segments)) ≡ cmd.length) (stands : (j : ℕ) → j < 32768 → slice_index_or buffer j 0 ≡ byte (start (windows.Buffer slot) + j)) where
    abbrev places : List ℕ
    places = buffer_addresses (laid_out slot cmd cmd.segments)

    bytes_are : answer_in buffer cmd.length cmd.segments ≡ map byte places
    bytes_are =
        let left = in_length cmd.segments filled in
        let right : length (map byte places) ≡ cmd.length = length-map places byte ∙ whole in
        ext_get_or 0 (answer_in buffer cmd.length cmd.segments) (map byte places) (left ∙ sym right)
        (λ p b.
        let c : p < cmd.length = omega arith in
        in_at cmd.segments filled p c
        ∙ (stands (place_of cmd.segments p) (laid_room slot cmd cmd.segments filled p c)
        ∙ (ap byte (sym (laid_at slot cmd cmd.segments filled p c)) ∙ sym (get_or-map byte places p 0 0 (omega arith)))))

    none_of : (xs : List ℕ) → length xs ≡ 0 → [] ≡ map byte xs
    none_of [] e = refl
    none_of (x ∷ xs) e = absurd (omega arith)

    by_count : (b : Bool) → (cmd.length == 0) ≡ b → cond b [] (answer_in buffer cmd.length cmd.segments) ≡ map byte places
    by_count true e = none_of places (let z : cmd.length ≡ 0 = grind (arith, nat_tests) in omega arith)
    by_count false e = bytes_are

    by_direction : (d : Bool) → cond (cond d cmd.length 0 == 0) [] (answer_in buffer (cond d cmd.length 0) cmd.segments) ≡ cond d (map byte places) []
    by_direction true = by_count (cmd.length == 0) refl
    by_direction false = refl

    pub answer_is : answer_by (plan_of cmd) buffer ≡ cond cmd.to_initiator (map byte places) []
    answer_is = by_direction cmd.to_initiator
