-- The addresses of a chunk that begins anywhere.
use Rattle.std.proofs.Common.{arith, ◌≡◌, refl, sym, subst, ◌∙◌, ap, ℕ, zero, suc, ◌+◌, ◌-◌, ◌≤◌, ◌<◌, min, nat_lt, Bool, true, false, cond, List, [], ◌∷◌, ◌++◌, length, take, drop, Some}
use Rattle.std.specs.Prelude.{IfSome}
use Rattle.std.proofs.Math.Seq.{drop-append-add}
use Rattle.std.proofs.lemmas.Bool.{ltb-true, ltb-false}
use Rattle.page_table.specs.declared.segment.Segment.{Segment}
use Rattle.page_table.specs.Buffer.{chunk, chunk_from, addresses, buffer_addresses, ChunkInPlace}

length-addresses : (base count : ℕ) → length (addresses base count) ≡ count
length-addresses base zero = refl
length-addresses base (suc count) = ap suc (length-addresses (base + 1) count)

-- behind the first addresses
drop-addresses : (base done left : ℕ) (rest : List ℕ) → drop done (addresses base (done + left) ++ rest) ≡ addresses (base + done) left ++ rest
drop-addresses base zero left rest = let e : base + 0 ≡ base = omega arith in let f : zero + left ≡ left = omega arith in rw (e, f) refl
drop-addresses base (suc done) left rest =
    let e : suc done + left ≡ suc (done + left) = omega arith in
    let f : base + suc done ≡ base + 1 + done = omega arith in
    rw (e, f) (drop-addresses (base + 1) done left rest)

-- the first addresses
take-addresses : (base some more : ℕ) (rest : List ℕ) → take some (addresses base (some + more) ++ rest) ≡ addresses base some
take-addresses base zero more rest = refl
take-addresses base (suc some) more rest =
    let e : suc some + more ≡ suc (some + more) = omega arith in
    rw e (ap (λ (l : List ℕ). base ∷ l) (take-addresses (base + 1) some more rest))

-- inside the first segment
here : (base size done limit : ℕ) (rest : List ℕ) → done < size → addresses (base + done) (min limit (size - done)) ≡ take (min limit (size - done)) (drop done (addresses base size ++ rest))
here base size done limit rest l =
    let left : ℕ = size - done in
    let some : ℕ = min limit left in
    let e : size ≡ done + left = omega arith in
    let f : left ≡ some + (left - some) = omega arith in
    sym (
    ap (λ (n : ℕ). take some (drop done (addresses base n ++ rest))) e
    ∙ ap (take some) (drop-addresses base done left rest)
    ∙ ap (λ (n : ℕ). take some (addresses (base + done) n ++ rest)) f
    ∙ take-addresses (base + done) some (left - some) rest)

-- behind the first segment
behind : (base size done : ℕ) (rest : List ℕ) → size ≤ done → drop done (addresses base size ++ rest) ≡ drop (done - size) rest
behind base size done rest l =
    let e : done ≡ length (addresses base size) + (done - size) = let n = length-addresses base size in omega (arith, n, l) in
    ap (λ (n : ℕ). drop n (addresses base size ++ rest)) e ∙ drop-append-add (addresses base size) rest (done - size)

by_place : (segment : Segment) (rest : List Segment) (done limit : ℕ) (b : Bool) → nat_lt done segment.length ≡ b → IfSome (chunk_from rest (done - segment.length) limit) (λ piece. addresses piece.offset piece.length ≡ take piece.length (drop (done - segment.length) (buffer_addresses rest))) → IfSome (cond b (Some (chunk (segment.base + done) (min limit (segment.length - done)))) (chunk_from rest (done - segment.length) limit)) (λ piece. addresses piece.offset piece.length ≡ take piece.length (drop done (addresses segment.base segment.length ++ buffer_addresses rest)))
by_place segment rest done limit true e later = here segment.base segment.length done limit (buffer_addresses rest) (ltb-true done segment.length e)
by_place segment rest done limit false e later =
    let P : List ℕ → Type 0 = λ l. IfSome (chunk_from rest (done - segment.length) limit) (λ piece. addresses piece.offset piece.length ≡ take piece.length l) in
    subst P (sym (behind segment.base segment.length done (buffer_addresses rest) (ltb-false done segment.length e))) later

pub chunk_in_place : ChunkInPlace
chunk_in_place [] done limit = tt
chunk_in_place (segment ∷ rest) done limit =
    by_place segment rest done limit (nat_lt done segment.length) refl (chunk_in_place rest (done - segment.length) limit)
