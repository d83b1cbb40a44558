-- The reads of a buffer's chunks, each where the one before ended (NCITS 325-1998, page tables): each that brings bytes begins where a chunk of the buffer begins.
use Rattle.sbp_world.proofs.Words.Std.{arith, ◌≡◌, ◌∙◌, refl, sym, ap, subst, ◌<◌, ◌≤◌, ◌+◌, ◌-◌, ◌==◌, ◌||◌, nat_lt, min, inl, inr, ◌⊎◌, ℕ, zero, suc, Bool, true, false, cond, List, [], ◌∷◌, ◌++◌, length, length-append, append_assoc, Option, Some, None, filter, flat_map, nat_tests}
use Rattle.sbp_world.proofs.Words.Target.{cut_to}
use Rattle.sbp_world.proofs.Words.Initiator.{Segment, Chunk, AreSegments, before, chunk_from, chunks, taken_from}
use Rattle.sbp_world.proofs.Words.Laws.{Moved, begins_one, joined}
use Rattle.std.proofs.Common.{append-nil}
use Rattle.page_table.proofs.Chunks.{chunks_in_turn}
use Rattle.sbp_world.proofs.Common.{no_bytes}

-- the bytes that were moved, joined
abbrev pub all_bytes : List Moved → List ℕ
all_bytes moved = flat_map (λ one. one.bytes) moved

-- bytes that were moved are those of the chunk of a buffer behind so many bytes of those that are wanted
pub record IsPiece (segments : List Segment) (limit wanted done : ℕ) (one : Moved) : Type 0 where
  pub offset : one.offset ≡ (cut_to (wanted - done) (chunk_from segments done limit)).offset
  pub size : length one.bytes ≡ (cut_to (wanted - done) (chunk_from segments done limit)).length

-- one piece behind the other
abbrev pub InTurn : List Segment → (limit wanted done : ℕ) → List Moved → Type 0
InTurn segments limit wanted done [] = Unit {0}
InTurn segments limit wanted done (one ∷ more) = IsPiece segments limit wanted done one × InTurn segments limit wanted (done + length one.bytes) more

pub all_more : (data_read : List Moved) (one : Moved) → all_bytes (data_read ++ one ∷ []) ≡ all_bytes data_read ++ one.bytes
all_more [] one = append-nil one.bytes
all_more (first ∷ more) one = ap (λ xs. first.bytes ++ xs) (all_more more one) ∙ sym (append_assoc first.bytes (all_bytes more) one.bytes)

-- one more
pub turn_more : (segments : List Segment) (limit wanted done : ℕ) (data_read : List Moved) (one : Moved) → InTurn segments limit wanted done data_read → IsPiece segments limit wanted (done + length (all_bytes data_read)) one → InTurn segments limit wanted done (data_read ++ one ∷ [])
turn_more segments limit wanted done [] one t p = (subst (λ d. IsPiece segments limit wanted d one) (let e : done + length (all_bytes []) ≡ done = omega arith in e) p, tt)
turn_more segments limit wanted done (first ∷ more) one t p =
    let e : done + length (first.bytes ++ all_bytes more) ≡ done + length first.bytes + length (all_bytes more) = (let l = length-append first.bytes (all_bytes more) in omega (arith, l)) in
    (t.0, turn_more segments limit wanted (done + length first.bytes) more one t.1 (subst (λ d. IsPiece segments limit wanted d one) e p))

-- ---- each begins where a chunk begins, or brings nothing
abbrev pub Fits : List Chunk → Moved → Type 0
Fits pieces one = (begins_one pieces one ≡ true) ⊎ (one.bytes ≡ [])

abbrev pub AllFit : List Chunk → List Moved → Type 0
AllFit pieces [] = Unit {0}
AllFit pieces (one ∷ more) = Fits pieces one × AllFit pieces more

either : (a b : Bool) → b ≡ true → a || b ≡ true
either true b e = refl
either false b e = e

more_fits : (piece : Chunk) (pieces : List Chunk) (one : Moved) → Fits pieces one → Fits (piece ∷ pieces) one
more_fits piece pieces one (inl e) = inl (either (piece.offset == one.offset) (begins_one pieces one) e)
more_fits piece pieces one (inr e) = inr e

all_more_fit : (piece : Chunk) (pieces : List Chunk) (moved : List Moved) → AllFit pieces moved → AllFit (piece ∷ pieces) moved
all_more_fit piece pieces [] h = tt
all_more_fit piece pieces (one ∷ moved) h = (more_fits piece pieces one h.0, all_more_fit piece pieces moved h.1)

-- where no bytes are left
cut_none : (o : Option Chunk) → (cut_to 0 o).length ≡ 0
cut_none None = refl
cut_none (Some taken) = omega arith

module _ (segments : List Segment) (limit wanted : ℕ) where
  none_left : (pieces : List Chunk) (done : ℕ) (moved : List Moved) → wanted ≤ done → InTurn segments limit wanted done moved → AllFit pieces moved
  none_left pieces done [] b t = tt
  none_left pieces done (one ∷ moved) b t =
      let zero_left : wanted - done ≡ 0 = omega arith in
      let none : length one.bytes ≡ 0 = t.0.size ∙ ap (λ n. (cut_to n (chunk_from segments done limit)).length) zero_left ∙ cut_none (chunk_from segments done limit) in
      (inr (no_bytes one.bytes none), none_left pieces (done + length one.bytes) moved (omega (arith, b)) t.1)

  -- where the buffer has no chunk
  none_there : (pieces : List Chunk) (done : ℕ) (moved : List Moved) → chunk_from segments done limit ≡ None → InTurn segments limit wanted done moved → AllFit pieces moved
  none_there pieces done [] e t = tt
  none_there pieces done (one ∷ moved) e t =
      let none : length one.bytes ≡ 0 = t.0.size ∙ ap (λ o. (cut_to (wanted - done) o).length) e in
      let same : done ≡ done + length one.bytes = omega (arith, none) in
      (inr (no_bytes one.bytes none), none_there pieces (done + length one.bytes) moved (ap (λ d. chunk_from segments d limit) (sym same) ∙ e) t.1)

  abbrev rest : List Moved → ℕ → Chunk → List Chunk
  rest moved done taken = taken_from (length moved) segments (done + taken.length) limit

  turn_fits : (moved : List Moved) (done : ℕ) → InTurn segments limit wanted done moved → AllFit (taken_from (length moved) segments done limit) moved
  turn_fits [] done t = tt
  turn_fits (one ∷ moved) done t = by_chunk (λ d u. turn_fits moved d u) (chunk_from segments done limit) refl
    where
      first : (taken : Chunk) → chunk_from segments done limit ≡ Some taken → begins_one (taken ∷ rest moved done taken) one ≡ true
      first taken e =
          let at : one.offset ≡ taken.offset = t.0.offset ∙ ap (λ o. (cut_to (wanted - done) o).offset) e in
          let here : (taken.offset == one.offset) ≡ true = grind (arith, nat_tests, at) in
          ap (λ b. b || begins_one (rest moved done taken) one) here

      others : ((d : ℕ) → InTurn segments limit wanted d moved → AllFit (taken_from (length moved) segments d limit) moved) → (taken : Chunk) → chunk_from segments done limit ≡ Some taken → (b : Bool) → nat_lt (wanted - done) taken.length ≡ b → AllFit (taken ∷ rest moved done taken) moved
      others again taken e true f =
          let less : wanted - done < taken.length = grind (arith, nat_tests, f) in
          let size : length one.bytes ≡ min (wanted - done) taken.length = t.0.size ∙ ap (λ o. (cut_to (wanted - done) o).length) e in
          none_left (taken ∷ rest moved done taken) (done + length one.bytes) moved (omega (arith, less, size)) t.1
      others again taken e false f =
          let whole : taken.length ≤ wanted - done = grind (arith, nat_tests, f) in
          let size : length one.bytes ≡ min (wanted - done) taken.length = t.0.size ∙ ap (λ o. (cut_to (wanted - done) o).length) e in
          let same : done + length one.bytes ≡ done + taken.length = omega (arith, whole, size) in
          all_more_fit taken (rest moved done taken) moved (again (done + taken.length) (subst (λ d. InTurn segments limit wanted d moved) same t.1))

      by_chunk : ((d : ℕ) → InTurn segments limit wanted d moved → AllFit (taken_from (length moved) segments d limit) moved) → (o : Option Chunk) → chunk_from segments done limit ≡ o → AllFit (before o (rest moved done)) (one ∷ moved)
      by_chunk again None e = none_there [] done (one ∷ moved) e t
      by_chunk again (Some taken) e = (inl (first taken e), others again taken e (nat_lt (wanted - done) taken.length) refl)

  -- more calls give more chunks
  longer : (few many : ℕ) (done : ℕ) (one : Moved) → few ≤ many → Fits (taken_from few segments done limit) one → Fits (taken_from many segments done limit) one
  longer few many done one b (inr e) = inr e
  longer zero many done one b (inl e) = absurd (let no : false ≡ true = e in cc)
  longer (suc few) zero done one b (inl e) = absurd (omega (arith, b))
  longer (suc few) (suc many) done one b (inl e) = by_chunk (λ d f. longer few many d one (omega (arith, b)) f) (chunk_from segments done limit) e
    where
      by_chunk : ((d : ℕ) → Fits (taken_from few segments d limit) one → Fits (taken_from many segments d limit) one) → (o : Option Chunk) → begins_one (before o (λ taken. taken_from few segments (done + taken.length) limit)) one ≡ true → Fits (before o (λ taken. taken_from many segments (done + taken.length) limit)) one
      by_chunk again None f = inl f
      by_chunk again (Some taken) f = by_first (taken.offset == one.offset) refl
        where
          by_first : (c : Bool) → (taken.offset == one.offset) ≡ c → Fits (taken ∷ taken_from many segments (done + taken.length) limit) one
          by_first true g = inl (ap (λ x. x || begins_one (taken_from many segments (done + taken.length) limit) one) g)
          by_first false g =
              more_fits taken (taken_from many segments (done + taken.length) limit) one
              (again (done + taken.length) (inl (sym (ap (λ x. x || begins_one (taken_from few segments (done + taken.length) limit) one) g) ∙ f)))

  all_longer : (few many : ℕ) (moved : List Moved) → few ≤ many → AllFit (taken_from few segments 0 limit) moved → AllFit (taken_from many segments 0 limit) moved
  all_longer few many [] b h = tt
  all_longer few many (one ∷ moved) b h = (longer few many 0 one b h.0, all_longer few many moved b h.1)

  pub all_fit : AreSegments segments → 0 < limit → (moved : List Moved) → InTurn segments limit wanted 0 moved → AllFit (chunks limit segments) moved
  all_fit sound some moved t =
      let many = length moved + length (chunks limit segments) in
      subst (λ pieces. AllFit pieces moved) (chunks_in_turn limit many segments sound some (omega arith)) (all_longer (length moved) many moved (omega arith) (turn_fits moved 0 t))

-- so joined they are all bytes
pub fit_joined : (pieces : List Chunk) (moved : List Moved) → AllFit pieces moved → joined pieces moved ≡ all_bytes moved
fit_joined pieces [] h = refl
fit_joined pieces (one ∷ moved) h = by_fit (fit_joined pieces moved h.1) h.0
  where
    by_fit : joined pieces moved ≡ all_bytes moved → Fits pieces one → joined pieces (one ∷ moved) ≡ one.bytes ++ all_bytes moved
    by_fit again (inl e) = ap (λ b. flat_map (λ (x : Moved). x.bytes) (cond b (one ∷ filter (begins_one pieces) moved) (filter (begins_one pieces) moved))) e ∙ ap (λ xs. one.bytes ++ xs) again
    by_fit again (inr e) = by (begins_one pieces one)
      where
        by : (b : Bool) → flat_map (λ (x : Moved). x.bytes) (cond b (one ∷ filter (begins_one pieces) moved) (filter (begins_one pieces) moved)) ≡ one.bytes ++ all_bytes moved
        by true = ap (λ xs. one.bytes ++ xs) again
        by false = again ∙ ap (λ xs. xs ++ all_bytes moved) (sym e)
