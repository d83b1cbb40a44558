-- Chunks of a buffer that were moved in turn, each from where the one before it ended, are the first ones of its chunks; and those that end with the buffer are all of them.
use Rattle.sbp_world.proofs.Words.Std.{arith, ◌≡◌, ◌∙◌, refl, sym, ap, append_assoc, ◌<◌, ◌≤◌, ◌+◌, ◌-◌, ◌*◌, ◌/◌, ◌==◌, ◌||◌, nat_lt, min, ℕ, zero, suc, Bool, true, false, List, [], ◌∷◌, ◌++◌, length, Option, Some, None, IsNone, nat_tests, append-nil}
use Rattle.sbp_world.proofs.Words.Initiator.{Chunk, Segment, before, bytes_of, chunk, chunk_from, chunks, pieces, taken_from}
use Rattle.sbp_world.proofs.Words.Laws.{Moved, begins_one}
use Rattle.std.proofs.lemmas.List.{length-append}
use Rattle.page_table.proofs.Chunks.{none_at_end}

-- ---- calls in turn give the chunks of the buffer, be its segments empty
shifted : (segment : Segment) (rest : List Segment) (done limit : ℕ) → chunk_from (segment ∷ rest) (segment.length + done) limit ≡ chunk_from rest done limit
shifted segment rest done limit =
    let past : nat_lt (segment.length + done) segment.length ≡ false = grind (arith, nat_tests) in
    let left : segment.length + done - segment.length ≡ done = omega arith in
    rw (past, left) refl

before_same : (o : Option Chunk) (f g : Chunk → List Chunk) → ((c : Chunk) → f c ≡ g c) → before o f ≡ before o g
before_same None f g h = refl
before_same (Some c) f g h = ap (λ (l : List Chunk). c ∷ l) (h c)

walk_shifted : (calls : ℕ) (segment : Segment) (rest : List Segment) (done limit : ℕ) → taken_from calls (segment ∷ rest) (segment.length + done) limit ≡ taken_from calls rest done limit
walk_shifted zero segment rest done limit = refl
walk_shifted (suc calls) segment rest done limit =
    ap (λ (o : Option Chunk). before o (λ taken. taken_from calls (segment ∷ rest) (segment.length + done + taken.length) limit)) (shifted segment rest done limit)
    ∙ before_same (chunk_from rest done limit) _ _ (λ taken.
    let e : segment.length + done + taken.length ≡ segment.length + (done + taken.length) = omega arith in
    ap (λ (n : ℕ). taken_from calls (segment ∷ rest) n limit) e ∙ walk_shifted calls segment rest (done + taken.length) limit)

same_pieces : (count base left limit : ℕ) → count * limit < left → pieces count (base + limit) (left - limit) limit ≡ pieces count (base + min limit left) (left - limit) limit
same_pieces zero base left limit h = refl
same_pieces (suc count) base left limit h =
    let e : limit ≡ min limit left = omega arith in
    ap (λ (n : ℕ). pieces (suc count) (base + n) (left - limit) limit) e

record Left (segment : Segment) (count done left limit : ℕ) : Type 0 where
  some : 0 < limit
  whole : done + left ≡ segment.length
  room : left ≤ count * limit
  least : count * limit < left + limit

walk_segment : (count calls : ℕ) (segment : Segment) (rest : List Segment) (done left limit : ℕ) → Left segment count done left limit
    → length (pieces count (segment.base + done) left limit ++ chunks limit rest) ≤ calls
    → ((calls : ℕ) → length (chunks limit rest) ≤ calls → taken_from calls rest 0 limit ≡ chunks limit rest)
    → taken_from calls (segment ∷ rest) done limit ≡ pieces count (segment.base + done) left limit ++ chunks limit rest
walk_segment zero calls segment rest done left limit w h after =
    let e : done ≡ segment.length + 0 = omega arith in
    ap (λ (n : ℕ). taken_from calls (segment ∷ rest) n limit) e ∙ walk_shifted calls segment rest 0 limit ∙ after calls h
walk_segment (suc count) zero segment rest done left limit w h after = absurd (omega arith)
walk_segment (suc count) (suc calls) segment rest done left limit w h after =
    let here : nat_lt done segment.length ≡ true = grind (arith, nat_tests) in
    let size : segment.length - done ≡ left = omega arith in
    let base : segment.base + done + min limit left ≡ segment.base + (done + min limit left) = omega arith in
    let above : count * limit < left = omega arith in
    let bases : pieces count (segment.base + done + limit) (left - limit) limit ≡ pieces count (segment.base + (done + min limit left)) (left - limit) limit =
    same_pieces count (segment.base + done) left limit above ∙ ap (λ (n : ℕ). pieces count n (left - limit) limit) base in
    let next : Left segment count (done + min limit left) (left - limit) limit = record { some = w.some; whole = omega arith; room = omega arith; least = omega arith } in
    let room : length (pieces count (segment.base + (done + min limit left)) (left - limit) limit ++ chunks limit rest) ≤ calls = omega (arith, ap (λ (l : List Chunk). length (l ++ chunks limit rest)) bases) in
    rw (here, size) (ap (λ (l : List Chunk). chunk (segment.base + done) (min limit left) ∷ l)
    (walk_segment count calls segment rest (done + min limit left) (left - limit) limit next room after
    ∙ ap (λ (l : List Chunk). l ++ chunks limit rest) (sym bases)))

record Rounded (n m count : ℕ) : Type 0 where
  room : n ≤ count * m
  least : count * m < n + m

rounded : (n m : ℕ) → 0 < m → Rounded n m ((n + m - 1) / m)
rounded n m h = record { room = omega arith; least = omega arith }

nothing : (calls limit : ℕ) → taken_from calls [] 0 limit ≡ []
nothing zero limit = refl
nothing (suc calls) limit = refl

pub all_in_turn : (limit calls : ℕ) (segments : List Segment) → 0 < limit → length (chunks limit segments) ≤ calls → taken_from calls segments 0 limit ≡ chunks limit segments
all_in_turn limit calls [] h enough = nothing calls limit
all_in_turn limit calls (segment ∷ rest) h enough =
    let r : Rounded segment.length limit ((segment.length + limit - 1) / limit) = rounded segment.length limit h in
    let base : segment.base + 0 ≡ segment.base = omega arith in
    let count : ℕ = (segment.length + limit - 1) / limit in
    let e : pieces count (segment.base + 0) segment.length limit ≡ pieces count segment.base segment.length limit = ap (λ (n : ℕ). pieces count n segment.length limit) base in
    walk_segment count calls segment rest 0 segment.length limit
    (record { some = h; whole = omega arith; room = r.room; least = r.least })
    (omega (arith, ap (λ (l : List Chunk). length (l ++ chunks limit rest)) e))
    (λ more fits. all_in_turn limit more rest h fits)
    ∙ ap (λ (l : List Chunk). l ++ chunks limit rest) e

-- ---- the first chunks, up to so many bytes
none_is : (o : Option Chunk) → IsNone o → o ≡ None
none_is None h = refl
none_is (Some c) h = absurd (cc h)

begins_behind : (front more : List Chunk) (c : Chunk) (one : Moved) → one.offset ≡ c.offset → begins_one (front ++ c ∷ more) one ≡ true
begins_behind [] more c one e = let here : (c.offset == one.offset) ≡ true = grind (arith, nat_tests, e) in ap (λ b. b || begins_one more one) here
begins_behind (d ∷ front) more c one e = by (d.offset == one.offset) (begins_behind front more c one e)
  where
    by : (b : Bool) → begins_one (front ++ c ∷ more) one ≡ true → b || begins_one (front ++ c ∷ more) one ≡ true
    by true f = refl
    by false f = f

module _ (segments : List Segment) (limit : ℕ) where
  pub record IsFront (done : ℕ) (front : List Chunk) : Type 0 where
    pub goes_on : (more : ℕ) → front ++ taken_from more segments done limit ≡ taken_from (length front + more) segments 0 limit

  pub front_none : IsFront 0 []
  front_none = record { goes_on = λ more. let e : more ≡ 0 + more = omega arith in ap (λ n. taken_from n segments 0 limit) e }

  pub front_more : (done : ℕ) (front : List Chunk) (c : Chunk) → chunk_from segments done limit ≡ Some c → IsFront done front → IsFront (done + c.length) (front ++ c ∷ [])
  front_more done front c e h = record {
    goes_on = λ more.
        let step : taken_from (suc more) segments done limit ≡ c ∷ taken_from more segments (done + c.length) limit = ap (λ o. before o (λ taken. taken_from more segments (done + taken.length) limit)) e in
        let size : length (front ++ c ∷ []) ≡ length front + 1 = length-append front (c ∷ []) in
        let count : length front + suc more ≡ length (front ++ c ∷ []) + more = omega (arith, size) in
        append_assoc front (c ∷ []) (taken_from more segments (done + c.length) limit)
        ∙ (ap (λ xs. front ++ xs) (sym step) ∙ (h.goes_on (suc more) ∙ ap (λ n. taken_from n segments 0 limit) count));
  }

  module _ (some : 0 < limit) where
    pub front_whole : (done : ℕ) (front : List Chunk) → IsFront done front → done ≡ bytes_of segments → front ≡ chunks limit segments
    front_whole done front h all =
        let many = length (chunks limit segments) in
        let ends : chunk_from segments done limit ≡ None = none_is (chunk_from segments done limit) ((none_at_end segments done limit (omega (arith, all))).1 all) in
        let none : taken_from (suc many) segments done limit ≡ [] = ap (λ o. before o (λ taken. taken_from many segments (done + taken.length) limit)) ends in
        sym (append-nil front) ∙ (ap (λ xs. front ++ xs) (sym none) ∙ (h.goes_on (suc many) ∙ all_in_turn limit (length front + suc many) segments some (omega arith)))

    -- the chunk behind them begins one
    pub front_begins : (done : ℕ) (front : List Chunk) (c : Chunk) (one : Moved) → IsFront done front → chunk_from segments done limit ≡ Some c → one.offset ≡ c.offset → begins_one (chunks limit segments) one ≡ true
    front_begins done front c one h e at =
        let many = length (chunks limit segments) in
        let step : taken_from (suc many) segments done limit ≡ c ∷ taken_from many segments (done + c.length) limit = ap (λ o. before o (λ taken. taken_from many segments (done + taken.length) limit)) e in
        let whole : front ++ c ∷ taken_from many segments (done + c.length) limit ≡ chunks limit segments =
        ap (λ xs. front ++ xs) (sym step) ∙ (h.goes_on (suc many) ∙ all_in_turn limit (length front + suc many) segments some (omega arith)) in
        ap (λ xs. begins_one xs one) (sym whole) ∙ begins_behind front (taken_from many segments (done + c.length) limit) c one at
