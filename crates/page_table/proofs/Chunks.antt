-- Chunks of a buffer.
use Rattle.std.proofs.Common.{arith, ◌^◌, get_or, ◌≡◌, refl, sym, ◌∙◌, ap, ℕ, zero, suc, ◌+◌, ◌-◌, ◌*◌, ◌/◌, ◌<◌, ◌≤◌, min, nat_lt, Bool, if◌then◌else◌, true, false, List, [], ◌∷◌, ◌++◌, length, Option, Some, None, IsNone, ◌↔◌}
use Rattle.std.proofs.lemmas.Grind.{flat_map-append}
use Rattle.std.proofs.lemmas.Bool.{ltb-true, ltb-false}
use Rattle.std.proofs.lemmas.Bool.Decides.{nat_tests}
use Rattle.page_table.specs.declared.segment.Segment.{Segment}
use Rattle.page_table.specs.declared.segment.Chunk.{Chunk}
use Rattle.page_table.specs.Buffer.{AreSegments, chunk, chunk_from, pieces, segment_chunks, chunks, addresses, chunk_addresses, bytes_of, before, taken_from, ChunksJoin, ChunksInTurn}

pub addresses-plus : (base a b : ℕ) → addresses base (a + b) ≡ addresses base a ++ addresses (base + a) b
addresses-plus base zero b =
    let e : zero + b ≡ b = omega arith in
    let f : base ≡ base + zero = omega arith in
    ap (addresses base) e ∙ ap (λ (n : ℕ). addresses n b) f
addresses-plus base (suc a) b =
    let e : suc a + b ≡ suc (a + b) = omega arith in
    let f : base + 1 + a ≡ base + suc a = omega arith in
    ap (addresses base) e
    ∙ ap (λ (l : List ℕ). base ∷ l) (addresses-plus (base + 1) a b ∙ ap (λ (n : ℕ). addresses (base + 1) a ++ addresses n b) f)

-- Where bytes are left, the piece before them had its full length.
same_after : (rest base left limit : ℕ) → left - limit ≡ rest → addresses (base + limit) rest ≡ addresses (base + min limit left) rest
same_after zero base left limit h = refl
same_after (suc rest) base left limit h =
    let e : limit ≡ min limit left = omega arith in
    ap (λ (n : ℕ). addresses (base + n) (suc rest)) e

pieces_join : (count base left limit : ℕ) → left ≤ count * limit → chunk_addresses (pieces count base left limit) ≡ addresses base left
pieces_join zero base left limit h =
    let e : zero ≡ left = omega arith in
    ap (addresses base) e
pieces_join (suc count) base left limit h =
    let more : left - limit ≤ count * limit = omega arith in
    let whole : min limit left + (left - limit) ≡ left = omega arith in
    ap (λ (l : List ℕ). addresses base (min limit left) ++ l) (pieces_join count (base + limit) (left - limit) limit more ∙ same_after (left - limit) base left limit refl)
    ∙ sym (addresses-plus base (min limit left) (left - limit)) ∙ ap (addresses base) whole

-- Rounded up, the number of pieces has room for the bytes, and one fewer has not.
record Rounded (n m count : ℕ) : Type 0 where
  room : n ≤ count * m
  least : count * m < n + m

rounded : (n m : ℕ) → 0 < m → Rounded n m ((n + m - 1) / m)
rounded n m h = record { room = omega arith; least = omega arith }

pub chunks_join : ChunksJoin
chunks_join limit [] h = refl
chunks_join limit (segment ∷ rest) h =
    flat_map-append (λ (piece : Chunk). addresses piece.offset piece.length) (segment_chunks limit segment) (chunks limit rest)
    ∙ ap (λ (l : List ℕ). l ++ chunk_addresses (chunks limit rest)) (pieces_join ((segment.length + limit - 1) / limit) segment.base segment.length limit (rounded segment.length limit h).room)
    ∙ ap (λ (l : List ℕ). addresses segment.base segment.length ++ l) (chunks_join limit rest h)

-- Behind a segment, the calls go on as over the rest alone.
chunk_shift : (segment : Segment) (rest : List Segment) (done limit : ℕ) → chunk_from (segment ∷ rest) (segment.length + done) limit ≡ chunk_from rest done limit
chunk_shift segment rest done limit =
    let past : nat_lt (segment.length + done) segment.length ≡ false = grind (arith, nat_tests) in
    let left : segment.length + done - segment.length ≡ done = omega arith in
    rw (past, left) refl

before_same : (o : Option Chunk) (f g : Chunk → List Chunk) → ((c : Chunk) → f c ≡ g c) → before o f ≡ before o g
before_same None f g h = refl
before_same (Some c) f g h = ap (λ (l : List Chunk). c ∷ l) (h c)

walk_shift : (calls : ℕ) (segment : Segment) (rest : List Segment) (done limit : ℕ) → taken_from calls (segment ∷ rest) (segment.length + done) limit ≡ taken_from calls rest done limit
walk_shift zero segment rest done limit = refl
walk_shift (suc calls) segment rest done limit =
    ap (λ (o : Option Chunk). before o (λ taken. taken_from calls (segment ∷ rest) (segment.length + done + taken.length) limit)) (chunk_shift segment rest done limit)
    ∙ before_same (chunk_from rest done limit) _ _ (λ taken.
    let e : segment.length + done + taken.length ≡ segment.length + (done + taken.length) = omega arith in
    ap (λ (n : ℕ). taken_from calls (segment ∷ rest) n limit) e ∙ walk_shift calls segment rest (done + taken.length) limit)

-- Where further pieces follow, the one before them had its full length.
same_pieces : (count base left limit : ℕ) → count * limit < left → pieces count (base + limit) (left - limit) limit ≡ pieces count (base + min limit left) (left - limit) limit
same_pieces zero base left limit h = refl
same_pieces (suc count) base left limit h =
    let e : limit ≡ min limit left = omega arith in
    ap (λ (n : ℕ). pieces (suc count) (base + n) (left - limit) limit) e

-- What is left of a segment, and how many pieces it has.
record Left (segment : Segment) (count done left limit : ℕ) : Type 0 where
  some : 0 < limit
  whole : done + left ≡ segment.length
  room : left ≤ count * limit
  least : count * limit < left + limit

walk_segment : (count calls : ℕ) (segment : Segment) (rest : List Segment) (done left limit : ℕ) → Left segment count done left limit
    → length (pieces count (segment.base + done) left limit ++ chunks limit rest) ≤ calls
    → ((calls : ℕ) → length (chunks limit rest) ≤ calls → taken_from calls rest 0 limit ≡ chunks limit rest)
    → taken_from calls (segment ∷ rest) done limit ≡ pieces count (segment.base + done) left limit ++ chunks limit rest
walk_segment zero calls segment rest done left limit w h after =
    let e : done ≡ segment.length + 0 = omega arith in
    ap (λ (n : ℕ). taken_from calls (segment ∷ rest) n limit) e ∙ walk_shift calls segment rest 0 limit ∙ after calls h
walk_segment (suc count) zero segment rest done left limit w h after = absurd (omega arith)
walk_segment (suc count) (suc calls) segment rest done left limit w h after =
    let here : nat_lt done segment.length ≡ true = grind (arith, nat_tests) in
    let size : segment.length - done ≡ left = omega arith in
    let base : segment.base + done + min limit left ≡ segment.base + (done + min limit left) = omega arith in
    let above : count * limit < left = omega arith in
    let bases : pieces count (segment.base + done + limit) (left - limit) limit ≡ pieces count (segment.base + (done + min limit left)) (left - limit) limit =
    same_pieces count (segment.base + done) left limit above ∙ ap (λ (n : ℕ). pieces count n (left - limit) limit) base in
    let next : Left segment count (done + min limit left) (left - limit) limit = record { some = w.some; whole = omega arith; room = omega arith; least = omega arith } in
    let room : length (pieces count (segment.base + (done + min limit left)) (left - limit) limit ++ chunks limit rest) ≤ calls = omega (arith, ap (λ (l : List Chunk). length (l ++ chunks limit rest)) bases) in
    rw (here, size) (ap (λ (l : List Chunk). chunk (segment.base + done) (min limit left) ∷ l)
    (walk_segment count calls segment rest (done + min limit left) (left - limit) limit next room after
    ∙ ap (λ (l : List Chunk). l ++ chunks limit rest) (sym bases)))

nothing : (calls limit : ℕ) → taken_from calls [] 0 limit ≡ []
nothing zero limit = refl
nothing (suc calls) limit = refl

pub chunks_in_turn : ChunksInTurn
chunks_in_turn limit calls [] sound h enough = nothing calls limit
chunks_in_turn limit calls (segment ∷ rest) sound h enough =
    let r : Rounded segment.length limit ((segment.length + limit - 1) / limit) = rounded segment.length limit h in
    let base : segment.base + 0 ≡ segment.base = omega arith in
    let count : ℕ = (segment.length + limit - 1) / limit in
    let e : pieces count (segment.base + 0) segment.length limit ≡ pieces count segment.base segment.length limit = ap (λ (n : ℕ). pieces count n segment.length limit) base in
    walk_segment count calls segment rest 0 segment.length limit
    (record { some = h; whole = omega arith; room = r.room; least = r.least })
    (omega (arith, ap (λ (l : List Chunk). length (l ++ chunks limit rest)) e))
    (λ more fits. chunks_in_turn limit more rest sound.1 h fits)
    ∙ ap (λ (l : List Chunk). l ++ chunks limit rest) e

-- There is no chunk exactly at the end.
pub none_at_end : (segments : List Segment) (done limit : ℕ) → done ≤ bytes_of segments → IsNone (chunk_from segments done limit) ↔ (done ≡ bytes_of segments)
none_at_end [] done limit h = (λ _. omega arith, λ _. refl)
none_at_end (segment ∷ rest) done limit h =
    let P : Bool → Type 0 = λ b. nat_lt done segment.length ≡ b → IsNone (if b then Some (chunk (segment.base + done) (min limit (segment.length - done))) else chunk_from rest (done - segment.length) limit) ↔ (done ≡ segment.length + bytes_of rest) in
    let here : P true = λ e. let below : done < segment.length = ltb-true done segment.length e in (λ n. absurd (cc n), λ q. absurd (omega arith)) in
    let later : P false = λ e.
    let above : segment.length ≤ done = ltb-false done segment.length e in
    let ends : IsNone (chunk_from rest (done - segment.length) limit) ↔ (done - segment.length ≡ bytes_of rest) = none_at_end rest (done - segment.length) limit (omega arith) in
    (λ n. let q : done - segment.length ≡ bytes_of rest = ends.0 n in omega arith, λ q. ends.1 (omega arith)) in
    let both : (b : Bool) → P b = λ b. elim b as P [ true ↦ here | false ↦ later ] in
    both (nat_lt done segment.length) refl

pub first_small : (segments : List Segment) → AreSegments segments → 1 ≤ length segments → (get_or segments 0 record { base = 0; length = 0 }).length < 2 ^ 16
first_small [] sound h = absurd (omega arith)
first_small (segment ∷ rest) sound h = sound.0.small
