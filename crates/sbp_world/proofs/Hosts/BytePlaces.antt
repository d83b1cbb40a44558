-- The place of each byte of the data in a buffer that is laid out for a command.
use Rattle.sbp_world.proofs.Words.Std.{arith, ◌≡◌, refl, sym, ◌∙◌, ap, ℕ, zero, suc, ◌+◌, ◌-◌, ◌*◌, ◌<◌, ◌≤◌, ◌==◌, nat_lt, Bool, true, false, cond, sum, List, [], ◌∷◌, ◌++◌, length, drop, length-append, Some, get_or-append, get_or-append_right, nat_tests, append-nil, sum_by-cons}
use Rattle.sbp_world.proofs.Words.Wire.{Cmd}
use Rattle.sbp_world.proofs.Words.Initiator.{start, behind, addresses, buffer_addresses, bytes_of, single, Segment}
use Rattle.sbp_world.proofs.Words.Laws.{laid_out, placed, data_at}
use Rattle.std.proofs.Common.{slice_index_or}
use Rattle.bus_memory.specs.declared.window.Window.TheVariants as windows
use Rattle.sbp_world.proofs.Hosts.ByteLists.{data_in, data_of, data_shift, is_in}

-- the place of a byte in segments from another place on
abbrev pub place_in : (at : ℕ) → List ℕ → ℕ → ℕ
place_in at [] p = at + p
place_in at (count ∷ rest) p = cond (nat_lt p count) (at + p) (place_in (behind at count) rest (p - count))

abbrev pub place_of : List ℕ → ℕ → ℕ
place_of [] p = p
place_of (count ∷ rest) p = place_in 0 (count ∷ rest) p

-- ---- addresses

pub addresses_length : (base count : ℕ) → length (addresses base count) ≡ count
addresses_length base zero = refl
addresses_length base (suc count) = ap suc (addresses_length (base + 1) count)

pub address_at : (base count x : ℕ) → x < count → slice_index_or (addresses base count) x 0 ≡ base + x
address_at base zero x b = absurd (omega arith)
address_at base (suc count) zero b = omega arith
address_at base (suc count) (suc x) b = address_at (base + 1) count x (omega arith) ∙ (let e : base + 1 + x ≡ base + suc x = omega arith in e)

pub buffer_length : (segments : List Segment) → length (buffer_addresses segments) ≡ bytes_of segments
buffer_length [] = refl
buffer_length (segment ∷ rest) =
    let a = addresses_length segment.base segment.length in
    let b = buffer_length rest in
    length-append (addresses segment.base segment.length) (buffer_addresses rest) ∙ omega arith

-- ---- segments

pub total : (count : ℕ) (rest : List ℕ) → sum (count ∷ rest) ≡ count + sum rest
total count rest = sum_by-cons (λ v. v) count rest

place_from : (at : ℕ) (counts : List ℕ) (p : ℕ) → at ≤ place_in at counts p
place_from at [] p = omega arith
place_from at (count ∷ rest) p = by_segment (place_from (behind at count) rest (p - count)) (nat_lt p count)
  where
    by_segment : behind at count ≤ place_in (behind at count) rest (p - count) → (b : Bool) → at ≤ cond b (at + p) (place_in (behind at count) rest (p - count))
    by_segment h true = omega arith
    by_segment h false = omega arith

place_room : (at : ℕ) (counts : List ℕ) (p : ℕ) → p < sum counts → at + sum counts + 19 * length counts ≤ 32768 → place_in at counts p < 32768
place_room at [] p b h = absurd (omega arith)
place_room at (count ∷ rest) p b h = by_segment (λ c d. place_room (behind at count) rest (p - count) c d) (nat_lt p count) refl
  where
    by_segment : (p - count < sum rest → behind at count + sum rest + 19 * length rest ≤ 32768 → place_in (behind at count) rest (p - count) < 32768) → (c : Bool) → nat_lt p count ≡ c → cond c (at + p) (place_in (behind at count) rest (p - count)) < 32768
    by_segment later true e = let q : p < count = grind (arith, nat_tests) in let t = total count rest in omega arith
    by_segment later false e =
        let q : count ≤ p = grind (arith, nat_tests) in
        let t = total count rest in
        later (omega arith) (omega arith)

placed_at : (base at : ℕ) (counts : List ℕ) (p : ℕ) → p < sum counts → slice_index_or (buffer_addresses (placed (base + at) counts)) p 0 ≡ base + place_in at counts p
placed_at base at [] p b = absurd (omega arith)
placed_at base at (count ∷ rest) p b = by_segment (λ c. placed_at base (behind at count) rest (p - count) c) (nat_lt p count) refl
  where
    by_segment : (p - count < sum rest → slice_index_or (buffer_addresses (placed (base + behind at count) rest)) (p - count) 0 ≡ base + place_in (behind at count) rest (p - count)) → (c : Bool) → nat_lt p count ≡ c → slice_index_or (addresses (base + at) count ++ buffer_addresses (placed (behind (base + at) count) rest)) p 0 ≡ base + cond c (at + p) (place_in (behind at count) rest (p - count))
    by_segment later true e =
        let q : p < count = grind (arith, nat_tests) in
        let l = addresses_length (base + at) count in
        get_or-append (addresses (base + at) count) (buffer_addresses (placed (behind (base + at) count) rest)) 0 p (omega arith)
        ∙ (address_at (base + at) count p q ∙ (let g : base + at + p ≡ base + (at + p) = omega arith in g))
    by_segment later false e =
        let q : count ≤ p = grind (arith, nat_tests) in
        let l = addresses_length (base + at) count in
        let t = total count rest in
        get_or-append_right (addresses (base + at) count) (buffer_addresses (placed (behind (base + at) count) rest)) p 0 (omega arith)
        ∙ (ap (λ n. slice_index_or (buffer_addresses (placed (behind (base + at) count) rest)) (p - n) 0) l
        ∙ (ap (λ n. slice_index_or (buffer_addresses (placed n rest)) (p - count) 0) (let g : behind (base + at) count ≡ base + behind at count = omega arith in g)
        ∙ later (omega arith)))

placed_data : (at : ℕ) (counts payload : List ℕ) (p : ℕ) → p < sum counts → data_in at counts payload (place_in at counts p) ≡ data_at (Some p) payload
placed_data at [] payload p b = absurd (omega arith)
placed_data at (count ∷ rest) payload p b = by_segment (λ c. placed_data (behind at count) rest (drop count payload) (p - count) c) (nat_lt p count) refl
  where
    by_segment : (p - count < sum rest → data_in (behind at count) rest (drop count payload) (place_in (behind at count) rest (p - count)) ≡ data_at (Some (p - count)) (drop count payload)) → (c : Bool) → nat_lt p count ≡ c → data_in at (count ∷ rest) payload (cond c (at + p) (place_in (behind at count) rest (p - count))) ≡ data_at (Some p) payload
    by_segment later true e =
        let q : p < count = grind (arith, nat_tests) in
        let inside : is_in at count (at + p) ≡ true = grind (arith, nat_tests) in
        ap (λ c. cond c (data_at (Some (at + p - at)) payload) (data_in (behind at count) rest (drop count payload) (at + p))) inside
        ∙ ap (λ n. data_at (Some n) payload) (let g : at + p - at ≡ p = omega arith in g)
    by_segment later false e =
        let q : count ≤ p = grind (arith, nat_tests) in
        let t = total count rest in
        let j = place_in (behind at count) rest (p - count) in
        let far : behind at count ≤ j = place_from (behind at count) rest (p - count) in
        let past : at + count ≤ j = omega arith in
        let away : is_in at count j ≡ false = grind (arith, nat_tests) in
        ap (λ c. cond c (data_at (Some (j - at)) payload) (data_in (behind at count) rest (drop count payload) j)) away
        ∙ (later (omega arith)
        ∙ (sym (data_shift (p - count) count payload) ∙ ap (λ n. data_at (Some n) payload) (let g : p - count + count ≡ p = omega arith in g)))

-- ---- a buffer as it is laid out

-- what is known of a command's segments: they fill its buffer
pub record FillsSegments (cmd : Cmd) (segments : List ℕ) : Type 0 where
  pub whole : 0 < length segments → sum segments ≡ cmd.length
  pub short : cmd.length ≤ 16384
  pub few : length segments ≤ 64

single_at : (base len p : ℕ) → p < len → slice_index_or (buffer_addresses (single base len)) p 0 ≡ base + p
single_at base len p b = by_length (len == 0) refl
  where
    by_length : (c : Bool) → (len == 0) ≡ c → slice_index_or (buffer_addresses (cond c [] (record { base = base; length = len } ∷ []))) p 0 ≡ base + p
    by_length true e = let z : len ≡ 0 = grind (arith, nat_tests) in absurd (omega arith)
    by_length false e = ap (λ xs. slice_index_or xs p 0) (append-nil (addresses base len)) ∙ address_at base len p b

module _ (slot : ℕ) (cmd : Cmd) where
  abbrev laid : List ℕ → List ℕ
  laid segments = buffer_addresses (laid_out slot cmd segments)

  pub laid_at : (segments : List ℕ) → FillsSegments cmd segments → (p : ℕ) → p < cmd.length → slice_index_or (laid segments) p 0 ≡ start (windows.Buffer slot) + place_of segments p
  laid_at [] f p b = single_at (start (windows.Buffer slot)) cmd.length p b
  laid_at (count ∷ rest) f p b =
      let t : sum (count ∷ rest) ≡ cmd.length = f.whole (omega arith) in
      ap (λ n. slice_index_or (buffer_addresses (placed n (count ∷ rest))) p 0) (let e : start (windows.Buffer slot) ≡ start (windows.Buffer slot) + 0 = omega arith in e)
      ∙ placed_at (start (windows.Buffer slot)) 0 (count ∷ rest) p (omega arith)

  pub laid_room : (segments : List ℕ) → FillsSegments cmd segments → (p : ℕ) → p < cmd.length → place_of segments p < 32768
  laid_room [] f p b = let s = f.short in omega arith
  laid_room (count ∷ rest) f p b =
      let t : sum (count ∷ rest) ≡ cmd.length = f.whole (omega arith) in
      let s = f.short in
      let l = f.few in
      place_room 0 (count ∷ rest) p (omega arith) (omega arith)

  pub laid_data : (segments payload : List ℕ) → FillsSegments cmd segments → (p : ℕ) → p < cmd.length → data_of segments payload (place_of segments p) ≡ data_at (Some p) payload
  laid_data [] payload f p b = refl
  laid_data (count ∷ rest) payload f p b =
      let t : sum (count ∷ rest) ≡ cmd.length = f.whole (omega arith) in
      placed_data 0 (count ∷ rest) payload p (omega arith)
