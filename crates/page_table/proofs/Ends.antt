-- Where the segments of a buffer end, and the chunk that begins behind so many bytes of it.
use Rattle.std.proofs.Common.{arith, get_or, ◌≡◌, refl, sym, ◌∙◌, ap, subst, ℕ, zero, suc, ◌+◌, ◌-◌, ◌*◌, ◌<◌, ◌≤◌, min, nat_lt, true, false, List, [], ◌∷◌, ◌++◌, length, Option, Some, None}
use Rattle.std.specs.List.Sorted.{IsNonDecreasingBy}
use Rattle.std.proofs.lemmas.Bool.Decides.{nat_tests}
use Rattle.page_table.specs.declared.segment.Segment.{Segment}
use Rattle.page_table.specs.declared.segment.Chunk.{Chunk}
use Rattle.page_table.specs.Buffer.{AreSegments, IsSegment, chunk, chunk_from, bytes_of}
use Rattle.page_table.specs.Ends.{ends_from}

pub ends_length : (before : ℕ) (xs : List Segment) → length (ends_from before xs) ≡ length xs
ends_length before [] = refl
ends_length before (segment ∷ rest) = ap suc (ends_length (before + segment.length) rest)

-- a segment more ends behind all bytes before it
pub ends_push : (before : ℕ) (xs : List Segment) (segment : Segment) → ends_from before (xs ++ segment ∷ []) ≡ ends_from before xs ++ (before + bytes_of xs + segment.length) ∷ []
ends_push before [] segment =
    let e : before + segment.length ≡ before + 0 + segment.length = omega arith in
    ap (λ (n : ℕ). n ∷ []) e
ends_push before (first ∷ rest) segment =
    let e : before + first.length + bytes_of rest + segment.length ≡ before + (first.length + bytes_of rest) + segment.length = omega arith in
    ap (λ (l : List ℕ). (before + first.length) ∷ l) (ends_push (before + first.length) rest segment ∙ ap (λ (n : ℕ). ends_from (before + first.length) rest ++ n ∷ []) e)

-- no segment ends before those before it
above : (before k : ℕ) (xs : List Segment) (d : ℕ) → k < length (ends_from before xs) → before ≤ get_or (ends_from before xs) k d
above before k [] d h = absurd (omega arith)
above before zero (segment ∷ rest) d h = omega arith
above before (suc k) (segment ∷ rest) d h = omega (arith, above (before + segment.length) k rest d (omega arith))

pub rises : (before : ℕ) (xs : List Segment) → IsNonDecreasingBy (λ (end : ℕ). end) (ends_from before xs)
rises before [] i j d le below = absurd (omega arith)
rises before (segment ∷ rest) zero zero d le below = omega arith
rises before (segment ∷ rest) zero (suc j) d le below = above (before + segment.length) j rest d (omega arith)
rises before (segment ∷ rest) (suc i) zero d le below = absurd (omega arith)
rises before (segment ∷ rest) (suc i) (suc j) d le below = rises (before + segment.length) rest i j d (omega arith) (omega arith)

-- The segments before a place end at `done` or before it, and the one there behind it.
pub record IsPlace (before at done : ℕ) (xs : List Segment) : Type 0 where
  pub begun : before ≤ done
  pub earlier : (k : ℕ) → k < at → get_or (ends_from before xs) k 0 ≤ done

later : (before at done : ℕ) (segment : Segment) (rest : List Segment) → IsPlace before (suc at) done (segment ∷ rest) → IsPlace (before + segment.length) at done rest
later before at done segment rest p = record { begun = p.earlier 0 (omega arith); earlier = λ k h. p.earlier (suc k) (omega arith) }

-- the segment at the place begins at `done` or before it
pub inside : (before at done : ℕ) (xs : List Segment) (d : Segment) → IsPlace before at done xs → at < length xs → get_or (ends_from before xs) at 0 ≤ done + (get_or xs at d).length
inside before at done [] d p h = absurd (omega arith)
inside before zero done (segment ∷ rest) d p h = omega (arith, p.begun)
inside before (suc at) done (segment ∷ rest) d p h = inside (before + segment.length) at done rest d (later before at done segment rest p) (omega arith)

-- the chunk behind so many bytes of a segment
abbrev pub chunk_of : Segment → ℕ → ℕ → Option Chunk
chunk_of segment done limit = Some (chunk (segment.base + done) (min limit (segment.length - done)))

here : (before done limit : ℕ) (segment : Segment) (rest : List Segment) → before ≤ done → done < before + segment.length
    → chunk_from (segment ∷ rest) (done - before) limit ≡ chunk_of segment (segment.length - (before + segment.length - done)) limit
here before done limit segment rest begun h =
    let below : nat_lt (done - before) segment.length ≡ true = grind (arith, nat_tests) in
    let e : done - before ≡ segment.length - (before + segment.length - done) = omega arith in
    rw below (ap (λ (n : ℕ). chunk_of segment n limit) e)

past : (before done limit : ℕ) (segment : Segment) (rest : List Segment) → before + segment.length ≤ done → chunk_from (segment ∷ rest) (done - before) limit ≡ chunk_from rest (done - (before + segment.length)) limit
past before done limit segment rest h =
    let behind : nat_lt (done - before) segment.length ≡ false = grind (arith, nat_tests) in
    let e : done - before - segment.length ≡ done - (before + segment.length) = omega arith in
    rw behind (ap (λ (n : ℕ). chunk_from rest n limit) e)

-- the chunk is that of the segment at the place
pub found : (before at done limit : ℕ) (xs : List Segment) (d : Segment) → IsPlace before at done xs → at < length xs → done < get_or (ends_from before xs) at 0
    → chunk_from xs (done - before) limit ≡ chunk_of (get_or xs at d) ((get_or xs at d).length - (get_or (ends_from before xs) at 0 - done)) limit
found before at done limit [] d p h behind = absurd (omega arith)
found before zero done limit (segment ∷ rest) d p h behind = here before done limit segment rest p.begun behind
found before (suc at) done limit (segment ∷ rest) d p h behind =
    past before done limit segment rest (p.earlier 0 (omega arith))
    ∙ found (before + segment.length) at done limit rest d (later before at done segment rest p) (omega arith) behind

-- there is none where each segment ends at `done` or before it
pub not_found : (before done limit : ℕ) (xs : List Segment) → IsPlace before (length xs) done xs → chunk_from xs (done - before) limit ≡ None
not_found before done limit [] p = refl
not_found before done limit (segment ∷ rest) p =
    past before done limit segment rest (p.earlier 0 (omega arith))
    ∙ not_found (before + segment.length) done limit rest (later before (length rest) done segment rest p)

all_at : (xs : List Segment) → AreSegments xs → (at : ℕ) (d : Segment) → at < length xs → IsSegment (get_or xs at d)
all_at [] sound at d h = absurd (omega arith)
all_at (segment ∷ rest) sound zero d h = sound.0
all_at (segment ∷ rest) sound (suc at) d h = all_at rest sound.1 at d (omega arith)

-- What holds of the segment at a place that was looked for.
pub record AtPlace (at done limit : ℕ) (xs : List Segment) (ends : List ℕ) (d : Segment) : Type 0 where
  pub some : done < get_or ends at 0
  pub left : get_or ends at 0 ≤ done + (get_or xs at d).length
  pub segment : IsSegment (get_or xs at d)
  pub chunk : chunk_from xs done limit ≡ chunk_of (get_or xs at d) ((get_or xs at d).length - (get_or ends at 0 - done)) limit

pub at_place : (at done limit : ℕ) (xs : List Segment) (ends : List ℕ) (d : Segment) → ends ≡ ends_from 0 xs → ((k : ℕ) → k < at → get_or ends k 0 ≤ done)
    → (at < length ends → done < get_or ends at 0) → at < length xs → AreSegments xs → AtPlace at done limit xs ends d
at_place at done limit xs ends d e earlier later below sound =
    let place : IsPlace 0 at done xs = record { begun = omega arith; earlier = subst (λ (l : List ℕ). (k : ℕ) → k < at → get_or l k 0 ≤ done) e earlier } in
    let size : length ends ≡ length xs = ap length e ∙ ends_length 0 xs in
    let some : done < get_or ends at 0 = later (omega arith) in
    let whole : done - 0 ≡ done = omega arith in
    record {
      some = some;
      left = subst (λ (l : List ℕ). get_or l at 0 ≤ done + (get_or xs at d).length) (sym e) (inside 0 at done xs d place below);
      segment = all_at xs sound at d below;
      chunk = ap (λ (n : ℕ). chunk_from xs n limit) (sym whole)
          ∙ found 0 at done limit xs d place below (subst (λ (l : List ℕ). done < get_or l at 0) e some)
          ∙ ap (λ (l : List ℕ). chunk_of (get_or xs at d) ((get_or xs at d).length - (get_or l at 0 - done)) limit) (sym e);
    }

pub at_end : (at done limit : ℕ) (xs : List Segment) (ends : List ℕ) → ends ≡ ends_from 0 xs → ((k : ℕ) → k < at → get_or ends k 0 ≤ done) → at ≡ length xs → None ≡ chunk_from xs done limit
at_end at done limit xs ends e earlier size =
    let whole : done - 0 ≡ done = omega arith in
    let place : IsPlace 0 (length xs) done xs = record { begun = omega arith; earlier = subst (λ (l : List ℕ). (k : ℕ) → k < length xs → get_or l k 0 ≤ done) e (λ k h. earlier k (omega arith)) } in
    sym (ap (λ (n : ℕ). chunk_from xs n limit) (sym whole) ∙ not_found 0 done limit xs place)

last_later : (x : ℕ) (l : List ℕ) → 0 < length l → get_or (x ∷ l) (length (x ∷ l) - 1) 0 ≡ get_or l (length l - 1) 0
last_later x l h =
    let e : length (x ∷ l) - 1 ≡ suc (length l - 1) = omega arith in
    ap (λ (n : ℕ). get_or (x ∷ l) n 0) e

-- the last segment's end is the length of the buffer
pub ends_with_total : (before : ℕ) (xs : List Segment) → 0 < length xs → get_or (ends_from before xs) (length (ends_from before xs) - 1) 0 ≡ before + bytes_of xs
ends_with_total before [] h = absurd (omega arith)
ends_with_total before (segment ∷ []) h = omega arith
ends_with_total before (segment ∷ next ∷ rest) h =
    let e : before + segment.length + bytes_of (next ∷ rest) ≡ before + bytes_of (segment ∷ next ∷ rest) = omega arith in
    last_later (before + segment.length) (ends_from (before + segment.length) (next ∷ rest)) (omega arith)
    ∙ ends_with_total (before + segment.length) (next ∷ rest) (omega arith) ∙ e

pub bytes_few : (xs : List Segment) → AreSegments xs → bytes_of xs ≤ 65535 * length xs
bytes_few [] sound = omega arith
bytes_few (segment ∷ rest) sound = omega (arith, sound.0.small, bytes_few rest sound.1)

pub are_segments_push : (xs : List Segment) (segment : Segment) → AreSegments xs → IsSegment segment → AreSegments (xs ++ segment ∷ [])
are_segments_push [] segment sound one = (one, tt)
are_segments_push (first ∷ rest) segment sound one = (sound.0, are_segments_push rest segment sound.1 one)
