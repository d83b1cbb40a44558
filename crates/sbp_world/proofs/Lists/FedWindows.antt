-- Where the chunks of a command's buffer begin (NCITS 325-1998, page tables): in the window of the buffer of its slot. So reads that begin elsewhere bring none of its page table and
-- none of its data.
use Rattle.sbp_world.proofs.Words.Std.{arith, ◌≡◌, ◌∙◌, refl, ap, subst, ◌<◌, ◌+◌, ◌-◌, ◌==◌, ◌||◌, nat_lt, min, ℕ, zero, suc, Bool, true, false, cond, List, [], ◌∷◌, ◌++◌, length, take, drop, Option, Some, None, IfSome, filter, flat_map, nat_tests}
use Rattle.sbp_world.proofs.Words.Wire.{Cmd}
use Rattle.sbp_world.proofs.Words.Initiator.{new_memory, start, window_at, Chunk, Segment, AreSegments, addresses, before, buffer_addresses, chunk, chunk_from, chunks, taken_from}
use Rattle.sbp_world.proofs.Words.Laws.{Moved, begins_one, joined, laid_out, read_at}
use Rattle.sbp_world.proofs.Words.World.{read_access, AreBeside, IsElsewhere, no_more, other_read, own_read}
use Rattle.bus_memory.specs.declared.window.Window.TheVariants as windows
use Rattle.bus_memory.proofs.Found.{window_here}
use Rattle.page_table.proofs.Chunks.{chunks_in_turn}
use Rattle.page_table.proofs.Places.{chunk_in_place}
use Rattle.sbp_world.proofs.Lists.Slots.{IsFilled, data_window}

-- a chunk has bytes
pub some_bytes : (segments : List Segment) (done limit : ℕ) (c : Chunk) → 0 < limit → chunk_from segments done limit ≡ Some c → 0 < c.length
some_bytes [] done limit c b e = absurd (let x : None ≡ Some c = e in cc)
some_bytes (segment ∷ rest) done limit c b e = by (λ f. some_bytes rest (done - segment.length) limit c b f) (nat_lt done segment.length) refl e
  where
    by : (chunk_from rest (done - segment.length) limit ≡ Some c → 0 < c.length) → (t : Bool) → nat_lt done segment.length ≡ t → cond t (Some (chunk (segment.base + done) (min limit (segment.length - done)))) (chunk_from rest (done - segment.length) limit) ≡ Some c → 0 < c.length
    by again true f g =
        let less : done < segment.length = grind (arith, nat_tests, f) in
        let same : chunk (segment.base + done) (min limit (segment.length - done)) ≡ c = (let x : Some (chunk (segment.base + done) (min limit (segment.length - done))) ≡ Some c = g in cc) in
        let size : min limit (segment.length - done) ≡ c.length = ap (λ (x : Chunk). x.length) same in
        omega (arith, less, size, b)
    by again false f g = again g

module _ (slot : ℕ) (small : slot < 32) (cmd : Cmd) (filled : IsFilled slot cmd) (limit : ℕ) (some : 0 < limit) (one : Moved) where
  abbrev laid : List Segment
  laid = laid_out slot cmd cmd.segments

  chunk_stands : (done : ℕ) (c : Chunk) → chunk_from laid done limit ≡ Some c → window_at c.offset ≡ Some (windows.Buffer slot)
  chunk_stands done c e =
      let follow : addresses c.offset c.length ≡ take c.length (drop done (buffer_addresses laid)) = subst (λ o. IfSome o (λ (piece : Chunk). addresses piece.offset piece.length ≡ take piece.length (drop done (buffer_addresses laid)))) e (chunk_in_place laid done limit) in
      data_window slot small cmd filled (read_access c.offset c.length) done (some_bytes laid done limit c some e) follow

  pub taken_stands : (calls done : ℕ) → begins_one (taken_from calls laid done limit) one ≡ true → window_at one.offset ≡ Some (windows.Buffer slot)
  taken_stands zero done e = absurd (let x : false ≡ true = e in cc)
  taken_stands (suc calls) done e = by_chunk (λ d f. taken_stands calls d f) (chunk_from laid done limit) refl e
    where
      by_first : (c : Chunk) → chunk_from laid done limit ≡ Some c → ((d : ℕ) → begins_one (taken_from calls laid d limit) one ≡ true → window_at one.offset ≡ Some (windows.Buffer slot)) → (t : Bool) → (c.offset == one.offset) ≡ t → t || begins_one (taken_from calls laid (done + c.length) limit) one ≡ true → window_at one.offset ≡ Some (windows.Buffer slot)
      by_first c f again true g h = ap window_at (let same : one.offset ≡ c.offset = grind (arith, nat_tests, g) in same) ∙ chunk_stands done c f
      by_first c f again false g h = again (done + c.length) h

      by_chunk : ((d : ℕ) → begins_one (taken_from calls laid d limit) one ≡ true → window_at one.offset ≡ Some (windows.Buffer slot)) → (o : Option Chunk) → chunk_from laid done limit ≡ o → begins_one (before o (λ taken. taken_from calls laid (done + taken.length) limit)) one ≡ true → window_at one.offset ≡ Some (windows.Buffer slot)
      by_chunk again None f g = absurd (let x : false ≡ true = g in cc)
      by_chunk again (Some c) f g = by_first c f again (c.offset == one.offset) refl g

  begins_there : AreSegments laid → begins_one (chunks limit laid) one ≡ true → window_at one.offset ≡ Some (windows.Buffer slot)
  begins_there sound e =
      let many = length (chunks limit laid) in
      taken_stands many 0 (ap (λ pieces. begins_one pieces one) (chunks_in_turn limit many laid sound some (omega arith)) ∙ e)

  -- what begins elsewhere brings nothing of it
  elsewhere_brings : AreSegments laid → IsElsewhere slot one → (more : List Moved) (b : Bool) → begins_one (chunks limit laid) one ≡ b → flat_map (λ (x : Moved). x.bytes) (cond b (one ∷ more) more) ≡ flat_map (λ (x : Moved). x.bytes) more
  elsewhere_brings sound e more false f = refl
  elsewhere_brings sound e more true f = ap (λ xs. xs ++ flat_map (λ (x : Moved). x.bytes) more) (e.buffer (begins_there sound f))

table_stands : (slot : ℕ) → slot < 32 → window_at (start (windows.Table slot)) ≡ Some (windows.Table slot)
table_stands slot b = window_here (new_memory []) (start (windows.Table slot)) (windows.Table slot) b (omega arith) (omega arith)

-- ---- all reads bring what the agent's own bring
module _ (slot : ℕ) (small : slot < 32) (cmd : Cmd) (filled : IsFilled slot cmd) (limit : ℕ) (some : 0 < limit) (sound : AreSegments (laid_out slot cmd cmd.segments)) where
  abbrev pieces : List Chunk
  pieces = chunks limit (laid_out slot cmd cmd.segments)

  abbrev bytes_if : Bool → Moved → List Moved → List ℕ
  bytes_if b one more = flat_map (λ (x : Moved). x.bytes) (cond b (one ∷ filter (begins_one pieces) more) (filter (begins_one pieces) more))

  bytes_same : (b : Bool) (one : Moved) (all own : List Moved) → joined pieces all ≡ joined pieces own → bytes_if b one all ≡ bytes_if b one own
  bytes_same true one all own e = ap (λ xs. one.bytes ++ xs) e
  bytes_same false one all own e = e

  pub beside_joined : (all own : List Moved) → AreBeside slot all own → joined pieces all ≡ joined pieces own
  beside_joined _ _ no_more = refl
  beside_joined _ _ (own_read one all own b) = bytes_same (begins_one pieces one) one all own (beside_joined all own b)
  beside_joined _ _ (other_read one all own e b) = elsewhere_brings slot small cmd filled limit some one sound e (filter (begins_one pieces) all) (begins_one pieces one) refl ∙ beside_joined all own b

module _ (slot : ℕ) (small : slot < 32) (address : ℕ) (stands : address ≡ start (windows.Table slot)) where
  read_same : (t : Bool) (one : Moved) (all own : List Moved) → read_at address all ≡ read_at address own → cond t one.bytes (read_at address all) ≡ cond t one.bytes (read_at address own)
  read_same true one all own e = refl
  read_same false one all own e = e

  not_there : (one : Moved) → IsElsewhere slot one → (t : Bool) → (one.offset == address) ≡ t → t ≡ false
  not_there one e false f = refl
  not_there one e true f =
      let same : one.offset ≡ start (windows.Table slot) = (let x : one.offset ≡ address = grind (arith, nat_tests, f) in x ∙ stands) in
      absurd (e.table (ap window_at same ∙ table_stands slot small))

  pub beside_read : (all own : List Moved) → AreBeside slot all own → read_at address all ≡ read_at address own
  beside_read _ _ no_more = refl
  beside_read _ _ (own_read one all own b) = read_same (one.offset == address) one all own (beside_read all own b)
  beside_read _ _ (other_read one all own e b) = ap (λ t. cond t one.bytes (read_at address all)) (not_there one e (one.offset == address) refl) ∙ beside_read all own b
