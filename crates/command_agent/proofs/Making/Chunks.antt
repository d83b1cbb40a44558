-- The chunks of a buffer that are left behind some of its bytes.
use Rattle.std.proofs.Common.{arith, ◌≡◌, refl, ap, ◌∙◌, ℕ, zero, suc, ◌+◌, ◌-◌, ◌/◌, ◌<◌, ◌≤◌, ◌==◌, min, nat_lt, Bool, true, false, cond, List, [], ◌∷◌, ◌++◌, length, Option, Some, None}
use Rattle.std.proofs.lemmas.Bool.Decides.{nat_tests}
use Rattle.std.proofs.lemmas.Nat.{pow_pos}
use Rattle.std.proofs.lemmas.List.{length-append}
use Rattle.std.proofs.Math.Nat.{add-div_right, div-eq_of_lt}
use Rattle.page_table.specs.declared.segment.Segment.{Segment}
use Rattle.page_table.specs.declared.segment.Chunk.{Chunk}
use Rattle.page_table.specs.Buffer.{chunk, chunk_from, pieces, segment_chunks, chunks, bytes_of}
use Rattle.command_agent.specs.Machine.{Machine, limit_of, cut_to}
use Rattle.command_agent.specs.Counting.{pieces_from, behind}
use Rattle.command_agent.specs.Making.{ChunksAreCounted}

-- ---- they are counted
pieces_length : (count base left limit : ℕ) → length (pieces count base left limit) ≡ count
pieces_length zero base left limit = refl
pieces_length (suc count) base left limit = ap suc (pieces_length count (base + limit) (left - limit) limit)

joined : (xs ys : List Chunk) (n m : ℕ) → length xs ≡ n → length ys ≡ m → length (xs ++ ys) ≡ n + m
joined xs ys n m a b = length-append xs ys ∙ ap (λ (k : ℕ). k + length ys) a ∙ ap (λ (k : ℕ). n + k) b

pub chunks_are_counted : ChunksAreCounted
chunks_are_counted limit [] = refl
chunks_are_counted limit (segment ∷ rest) =
    let whole : segment.length - 0 ≡ segment.length = omega arith in
    let start : 0 - segment.length ≡ 0 = omega arith in
    joined (segment_chunks limit segment) (chunks limit rest) ((segment.length + limit - 1) / limit) (pieces_from rest limit 0)
    (pieces_length ((segment.length + limit - 1) / limit) segment.base segment.length limit)
    (chunks_are_counted limit rest)
    ∙ rw (whole, start) refl

-- ---- each chunk is one
-- one piece of a segment, and what is left of the segment behind it
one_less : (left limit : ℕ) → 0 < limit → 0 < left → suc ((left - min limit left + limit - 1) / limit) ≡ (left + limit - 1) / limit
one_less left limit h some = by (nat_lt left limit) refl
  where
    by : (b : Bool) → nat_lt left limit ≡ b → suc ((left - min limit left + limit - 1) / limit) ≡ (left + limit - 1) / limit
    by true e =
        let below : left < limit = grind (arith, nat_tests, e) in
        let none = div-eq_of_lt {n = left - min limit left + limit - 1} {m = limit} (omega arith) in
        let more = add-div_right (left - 1) {k = limit} h in
        let nothing = div-eq_of_lt {n = left - 1} {m = limit} (omega arith) in
        let all : left + limit - 1 ≡ left - 1 + limit = omega arith in
        let same = ap (λ (n : ℕ). n / limit) all in
        omega (arith, none, more, nothing, same)
    by false e =
        let above : limit ≤ left = grind (arith, nat_tests, e) in
        let more = add-div_right (left - 1) {k = limit} h in
        let rest : left - min limit left + limit - 1 ≡ left - 1 = omega arith in
        let all : left + limit - 1 ≡ left - 1 + limit = omega arith in
        let a = ap (λ (n : ℕ). n / limit) rest in
        let b = ap (λ (n : ℕ). n / limit) all in
        omega (arith, more, a, b)

-- the bytes of the next chunk, where so many are to be moved yet
abbrev pub size_of : ℕ → Option Chunk → ℕ
size_of left taken = (cut_to left taken).length

pub size_small : (left : ℕ) (taken : Option Chunk) → size_of left taken ≤ left
size_small left None = omega arith
size_small left (Some taken) = omega arith

-- behind a chunk of so many bytes there is one less
abbrev IsLess : List Segment → ℕ → ℕ → ℕ → ℕ → Type 0
IsLess segments done left limit size = suc (cond (size == left) 0 (pieces_from segments limit (done + size))) ≤ pieces_from segments limit done

less_here : (segment : Segment) (rest : List Segment) (done left limit : ℕ) → 0 < limit → 0 < left → done < segment.length → IsLess (segment ∷ rest) done left limit (min left (min limit (segment.length - done)))
less_here segment rest done left limit h some below = by (min left (min limit (segment.length - done)) == left) refl
  where
    one : suc ((segment.length - done - min limit (segment.length - done) + limit - 1) / limit) ≡ (segment.length - done + limit - 1) / limit
    one = one_less (segment.length - done) limit h (omega arith)

    by : (b : Bool) → (min left (min limit (segment.length - done)) == left) ≡ b
        → suc (cond b 0 (pieces_from (segment ∷ rest) limit (done + min left (min limit (segment.length - done))))) ≤ pieces_from (segment ∷ rest) limit done
    by true e = omega (arith, one)
    by false e =
        let size : min left (min limit (segment.length - done)) ≡ min limit (segment.length - done) = grind (arith, nat_tests, e) in
        let within : segment.length - (done + min left (min limit (segment.length - done))) ≡ segment.length - done - min limit (segment.length - done) = omega (arith, size) in
        let start : done + min left (min limit (segment.length - done)) - segment.length ≡ done - segment.length = omega (arith, size) in
        let a = ap (λ (n : ℕ). (n + limit - 1) / limit) within in
        let b = ap (pieces_from rest limit) start in
        omega (arith, one, a, b)

less_later : (segment : Segment) (rest : List Segment) (done left limit size : ℕ) → segment.length ≤ done → IsLess rest (done - segment.length) left limit size → IsLess (segment ∷ rest) done left limit size
less_later segment rest done left limit size above less = by (size == left) less
  where
    by : (b : Bool) → suc (cond b 0 (pieces_from rest limit (done - segment.length + size))) ≤ pieces_from rest limit (done - segment.length)
        → suc (cond b 0 (pieces_from (segment ∷ rest) limit (done + size))) ≤ pieces_from (segment ∷ rest) limit done
    by true l = omega (arith, l)
    by false l =
        let start : done + size - segment.length ≡ done - segment.length + size = omega arith in
        let within : segment.length - (done + size) ≡ segment.length - done = omega arith in
        let a = ap (λ (n : ℕ). (n + limit - 1) / limit) within in
        let b = ap (pieces_from rest limit) start in
        omega (arith, l, a, b)

less : (segments : List Segment) (done left limit : ℕ) → 0 < limit → 0 < left → done + left ≤ bytes_of segments → IsLess segments done left limit (size_of left (chunk_from segments done limit))
less [] done left limit h some fits = absurd (omega arith)
less (segment ∷ rest) done left limit h some fits = by (nat_lt done segment.length) refl (less rest (done - segment.length) left limit h some)
  where
    by : (b : Bool) → nat_lt done segment.length ≡ b
        → (done - segment.length + left ≤ bytes_of rest → IsLess rest (done - segment.length) left limit (size_of left (chunk_from rest (done - segment.length) limit)))
        → IsLess (segment ∷ rest) done left limit (size_of left (cond b (Some (chunk (segment.base + done) (min limit (segment.length - done)))) (chunk_from rest (done - segment.length) limit)))
    by true e later = less_here segment rest done left limit h some (grind (arith, nat_tests, e))
    by false e later =
        let above : segment.length ≤ done = grind (arith, nat_tests, e) in
        less_later segment rest done left limit (size_of left (chunk_from rest (done - segment.length) limit)) above (later (omega arith))

-- The chunk behind `done` bytes of `total` is one of the pieces from there on.
pub one_chunk : (m : Machine) (done total : ℕ) → done < total → total ≤ bytes_of m.segments → suc (behind m done total) ≤ pieces_from m.segments (limit_of m.orb) done
one_chunk m done total below fits = by (done + size == total) refl
  where
    size : ℕ
    size = size_of (total - done) (chunk_from m.segments done (limit_of m.orb))

    one : IsLess m.segments done (total - done) (limit_of m.orb) size
    one = less m.segments done (total - done) (limit_of m.orb) (pow_pos (m.orb.max_payload + 2)) (omega arith) (omega arith)

    rest : ℕ
    rest = pieces_from m.segments (limit_of m.orb) (done + size)

    by : (b : Bool) → (done + size == total) ≡ b → suc (cond b 0 rest) ≤ pieces_from m.segments (limit_of m.orb) done
    by true e =
        let last : (size == total - done) ≡ true = grind (arith, nat_tests, e) in
        let same = ap (λ (b : Bool). suc (cond b 0 rest)) last in
        omega (arith, one, same)
    by false e =
        let more : (size == total - done) ≡ false = grind (arith, nat_tests, e) in
        let same = ap (λ (b : Bool). suc (cond b 0 rest)) more in
        omega (arith, one, same)
