-- The chunks of a buffer that is laid out for a command (NCITS 325-1998, page tables): one that begins elsewhere stands elsewhere; and a chunk ends with the buffer at most.
use Rattle.sbp_world.proofs.Words.Std.{arith, ◌≡◌, ◌∙◌, refl, sym, ap, ◌<◌, ◌≤◌, ◌+◌, ◌-◌, ◌==◌, ℕ, nat_lt, min, Bool, true, false, cond, List, [], ◌∷◌, Option, Some, None, nat_tests}
use Rattle.sbp_world.proofs.Words.Wire.{Cmd}
use Rattle.sbp_world.proofs.Words.Target.{cut_to}
use Rattle.sbp_world.proofs.Words.Initiator.{start, behind, Chunk, Segment, bytes_of, chunk, chunk_from, single}
use Rattle.sbp_world.proofs.Words.Laws.{laid_out, placed}
use Rattle.bus_memory.specs.declared.window.Window.TheVariants as windows

same_chunk : (a b : Chunk) → Some a ≡ Some b → a ≡ b
same_chunk a b e = cc

offset_of : (a b : Chunk) → Some a ≡ Some b → a.offset ≡ b.offset
offset_of a b e = ap (λ (c : Chunk). c.offset) (same_chunk a b e)

-- ---- it ends with the buffer at most
pub chunk_within : (segments : List Segment) (done limit : ℕ) (c : Chunk) → chunk_from segments done limit ≡ Some c → done + c.length ≤ bytes_of segments
chunk_within [] done limit c e = absurd (let z : None ≡ Some c = e in cc)
chunk_within (segment ∷ rest) done limit c e = by (λ f. chunk_within rest (done - segment.length) limit c f) (nat_lt done segment.length) refl e
  where
    by : (chunk_from rest (done - segment.length) limit ≡ Some c → (done - segment.length) + c.length ≤ bytes_of rest) → (b : Bool) → nat_lt done segment.length ≡ b → cond b (Some (chunk (segment.base + done) (min limit (segment.length - done)))) (chunk_from rest (done - segment.length) limit) ≡ Some c → done + c.length ≤ segment.length + bytes_of rest
    by again true f g =
        let size : min limit (segment.length - done) ≡ c.length = ap (λ (x : Chunk). x.length) (same_chunk (chunk (segment.base + done) (min limit (segment.length - done))) c g) in
        let less : done < segment.length = grind (arith, nat_tests) in
        omega (arith, size, less)
    by again false f g =
        let rest_of = again g in
        let more : segment.length ≤ done = grind (arith, nat_tests) in
        omega (arith, rest_of, more)

-- ---- where it stands
placed_low : (counts : List ℕ) (at done limit : ℕ) (c : Chunk) → chunk_from (placed at counts) done limit ≡ Some c → at ≤ c.offset
placed_low [] at done limit c e = absurd (let z : None ≡ Some c = e in cc)
placed_low (count ∷ counts) at done limit c e = by (λ f. placed_low counts (behind at count) (done - count) limit c f) (nat_lt done count) e
  where
    by : (chunk_from (placed (behind at count) counts) (done - count) limit ≡ Some c → behind at count ≤ c.offset) → (b : Bool) → cond b (Some (chunk (at + done) (min limit (count - done)))) (chunk_from (placed (behind at count) counts) (done - count) limit) ≡ Some c → at ≤ c.offset
    by again true g = let o : at + done ≡ c.offset = offset_of (chunk (at + done) (min limit (count - done))) c g in omega (arith, o)
    by again false g = let o = again g in omega (arith, o)

placed_same : (counts : List ℕ) (at one other limit : ℕ) (c d : Chunk) → chunk_from (placed at counts) one limit ≡ Some c → chunk_from (placed at counts) other limit ≡ Some d → c.offset ≡ d.offset → one ≡ other
placed_same [] at one other limit c d e f same = absurd (let z : None ≡ Some c = e in cc)
placed_same (count ∷ counts) at one other limit c d e f same =
    by (λ x y. placed_same counts (behind at count) (one - count) (other - count) limit c d x y same) (nat_lt one count) (nat_lt other count) refl refl e f
  where
    by : (chunk_from (placed (behind at count) counts) (one - count) limit ≡ Some c → chunk_from (placed (behind at count) counts) (other - count) limit ≡ Some d → one - count ≡ other - count) → (x y : Bool) → nat_lt one count ≡ x → nat_lt other count ≡ y → cond x (Some (chunk (at + one) (min limit (count - one)))) (chunk_from (placed (behind at count) counts) (one - count) limit) ≡ Some c → cond y (Some (chunk (at + other) (min limit (count - other)))) (chunk_from (placed (behind at count) counts) (other - count) limit) ≡ Some d → one ≡ other
    by again true true f g h k =
        let a : at + one ≡ c.offset = offset_of (chunk (at + one) (min limit (count - one))) c h in
        let b : at + other ≡ d.offset = offset_of (chunk (at + other) (min limit (count - other))) d k in
        omega (arith, a, b, same)
    by again true false f g h k =
        let a : at + one ≡ c.offset = offset_of (chunk (at + one) (min limit (count - one))) c h in
        let b = placed_low counts (behind at count) (other - count) limit d k in
        let less : one < count = grind (arith, nat_tests) in
        absurd (omega (arith, a, b, less, same))
    by again false true f g h k =
        let a = placed_low counts (behind at count) (one - count) limit c h in
        let b : at + other ≡ d.offset = offset_of (chunk (at + other) (min limit (count - other))) d k in
        let less : other < count = grind (arith, nat_tests) in
        absurd (omega (arith, a, b, less, same))
    by again false false f g h k =
        let a = again h k in
        let b : count ≤ one = grind (arith, nat_tests) in
        let x : count ≤ other = grind (arith, nat_tests) in
        omega (arith, a, b, x)

single_at : (base len done limit : ℕ) (c : Chunk) → chunk_from (single base len) done limit ≡ Some c → base + done ≡ c.offset
single_at base len done limit c e = by (len == 0) e
  where
    inside : (b : Bool) → cond b (Some (chunk (base + done) (min limit (len - done)))) None ≡ Some c → base + done ≡ c.offset
    inside true g = offset_of (chunk (base + done) (min limit (len - done))) c g
    inside false g = absurd (let z : None ≡ Some c = g in cc)

    by : (b : Bool) → chunk_from (cond b [] (record { base = base; length = len } ∷ [])) done limit ≡ Some c → base + done ≡ c.offset
    by true g = absurd (let z : None ≡ Some c = g in cc)
    by false g = inside (nat_lt done len) g

module _ (slot : ℕ) (cmd : Cmd) where
  pub laid_low : (segments : List ℕ) (done limit : ℕ) (c : Chunk) → chunk_from (laid_out slot cmd segments) done limit ≡ Some c → start (windows.Buffer slot) ≤ c.offset
  laid_low [] done limit c e = let o = single_at (start (windows.Buffer slot)) cmd.length done limit c e in omega (arith, o)
  laid_low (count ∷ counts) done limit c e = placed_low (count ∷ counts) (start (windows.Buffer slot)) done limit c e

  pub laid_same : (segments : List ℕ) (one other limit : ℕ) (c d : Chunk) → chunk_from (laid_out slot cmd segments) one limit ≡ Some c → chunk_from (laid_out slot cmd segments) other limit ≡ Some d → c.offset ≡ d.offset → one ≡ other
  laid_same [] one other limit c d e f same =
      let o = single_at (start (windows.Buffer slot)) cmd.length one limit c e in
      let p = single_at (start (windows.Buffer slot)) cmd.length other limit d f in
      omega (arith, o, p, same)
  laid_same (count ∷ counts) one other limit c d e f same = placed_same (count ∷ counts) (start (windows.Buffer slot)) one other limit c d e f same

-- ---- a whole chunk, from where it begins
module _ (slot : ℕ) (cmd : Cmd) (limit one other left total offset size count : ℕ) where
  abbrev laid : List Segment
  laid = laid_out slot cmd cmd.segments

  pub record IsWholeFrom : Type 0 where
    pub same : other ≡ one
    pub whole : chunk_from laid one limit ≡ Some (chunk offset count)

  whole_by : (found there : Option Chunk) → chunk_from laid other limit ≡ found → chunk_from laid one limit ≡ there → chunk offset count ≡ cut_to (total - other) found → chunk offset size ≡ cut_to left there → 0 < count → total ≡ bytes_of laid → IsWholeFrom
  whole_by None there e f g h some all = let none : count ≡ 0 = ap (λ (x : Chunk). x.length) g in absurd (omega (arith, none, some))
  whole_by (Some c) None e f g h some all =
      let at : offset ≡ c.offset = ap (λ (x : Chunk). x.offset) g in
      let none : offset ≡ 0 = ap (λ (x : Chunk). x.offset) h in
      let low : start (windows.Buffer slot) ≤ c.offset = laid_low slot cmd cmd.segments other limit c e in
      absurd (omega (arith, at, none, low))
  whole_by (Some c) (Some d) e f g h some all =
      let at : offset ≡ c.offset = ap (λ (x : Chunk). x.offset) g in
      let there : offset ≡ d.offset = ap (λ (x : Chunk). x.offset) h in
      let cut : count ≡ min (total - other) c.length = ap (λ (x : Chunk). x.length) g in
      let inside = chunk_within laid other limit c e in
      let long : c.length ≡ count = omega (arith, cut, inside, all) in
      let is : other ≡ one = laid_same slot cmd cmd.segments other one limit c d e f (sym at ∙ there) in
      record {
        same = is;
        whole = ap (λ x. chunk_from laid x limit) (sym is) ∙ (e ∙ (ap (λ x. Some (chunk x c.length)) (sym at) ∙ ap (λ x. Some (chunk offset x)) long));
      }

  pub whole_from : chunk offset size ≡ cut_to left (chunk_from laid one limit) → chunk offset count ≡ cut_to (total - other) (chunk_from laid other limit) → 0 < count → total ≡ bytes_of laid → IsWholeFrom
  whole_from h g some all = whole_by (chunk_from laid other limit) (chunk_from laid one limit) refl refl g h some all
