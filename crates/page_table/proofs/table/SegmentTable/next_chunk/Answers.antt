use Rattle.std.proofs.Common.{arith, get_or, ◌≡◌, ◌≢◌, sym, ◌∙◌, ap, subst, ℕ, ◌<◌, ◌≤◌, ◌↔◌, List, length, Option, None, IsNone, IfSome}
use Rattle.page_table.specs.declared.segment.Segment.{Segment}
use Rattle.page_table.specs.declared.segment.Chunk.{Chunk}
use Rattle.page_table.specs.Buffer.{AreSegments, chunk_from, bytes_of}
use Rattle.page_table.specs.Ends.{ends_from}
use Rattle.page_table.proofs.Chunks.{none_at_end}
use Rattle.page_table.proofs.Ends.{AtPlace, at_place, at_end, ends_length}
use Rattle.page_table.proofs.table.SegmentTable.next_chunk.Goals as goal

-- no segment ends behind `done`
none_left : (c : goal.Then-at-len) → None ≡ chunk_from c.args.self.now c.args.done c.args.limit
none_left c =
    let ends = c.as_slice.ensures.value ∙ c.self.invariant.1 in
    at_end c.place_of-at.result c.args.done c.args.limit c.self.inside.segments.items c.as_slice.result.now ends c.place_of-at.ensures.before (c.if-at-len.true ∙ c.len.ensures.value)
    ∙ ap (λ (xs : List Segment). chunk_from xs c.args.done c.args.limit) c.self.view_is

pub returns-then-at-len-clause-chunk : goal.returns-then-at-len-clause-chunk
returns-then-at-len-clause-chunk c = none_left c

pub returns-then-at-len-clause-end : goal.returns-then-at-len-clause-end
returns-then-at-len-clause-end c = subst (λ (o : Option Chunk). IsNone o ↔ (c.args.done ≡ bytes_of c.args.self.now)) (sym (none_left c)) (none_at_end c.args.self.now c.args.done c.args.limit c.requires.within)

-- the segment at the place that was found, and the chunk there
there : (at done limit : ℕ) (xs ys : List Segment) (ends looked read : List ℕ) → AreSegments xs → ends ≡ ends_from 0 xs → looked ≡ ends → read ≡ ends → ys ≡ xs
    → ((k : ℕ) → k < at → get_or looked k 0 ≤ done) → (at < length looked → done < get_or looked at 0) → at ≤ length looked → at ≢ length xs
    → AtPlace at done limit ys read (record { base = 0; length = 0 })
there at done limit xs ys ends looked read sound e same known of before behind bound off =
    let below : at < length xs = omega (arith, ap length (same ∙ e), ends_length 0 xs, off) in
    subst (λ (l : List Segment). AtPlace at done limit l read (record { base = 0; length = 0 })) (sym of)
    (at_place at done limit xs read (record { base = 0; length = 0 }) (known ∙ e)
    (subst (λ (l : List ℕ). (k : ℕ) → k < at → get_or l k 0 ≤ done) (same ∙ sym known) before)
    (subst (λ (l : List ℕ). at < length l → done < get_or l at 0) (same ∙ sym known) behind) below sound)

found_at : (c : goal.After-segment-2-1) → AtPlace c.place_of-at.result c.args.done c.args.limit c.as_slice-2.result.now c.as_slice-3.result.now (record { base = 0; length = 0 })
found_at c =
    there c.place_of-at.result c.args.done c.args.limit c.self.inside.segments.items c.as_slice-2.result.now c.self.inside.ends.items c.as_slice.result.now c.as_slice-3.result.now
    c.self.invariant.0 c.self.invariant.1 c.as_slice.ensures.value c.as_slice-3.ensures.value c.as_slice-2.ensures.value
    c.place_of-at.ensures.before c.place_of-at.ensures.here c.place_of-at.ensures.bound (λ h. c.if-at-len.false (h ∙ sym c.len.ensures.value))

pub overflow_cast-left : goal.overflow_cast-left
overflow_cast-left c = omega (arith, (found_at c).left, (found_at c).segment.small)

pub overflow_sub-segment : goal.overflow_sub-segment
overflow_sub-segment c = omega (arith, (found_at c).left)

pub chunk_in-requires-clause-segment : goal.chunk_in-requires-clause-segment
chunk_in-requires-clause-segment c = (found_at c).segment

pub chunk_in-requires-clause-inside : goal.chunk_in-requires-clause-inside
chunk_in-requires-clause-inside c = omega (arith, (found_at c).some, (found_at c).left)

-- the same where the chunk was made
placed : (c : goal.After-chunk_in) → AtPlace c.place_of-at.result c.args.done c.args.limit c.as_slice-2.result.now c.as_slice-3.result.now (record { base = 0; length = 0 })
placed c =
    there c.place_of-at.result c.args.done c.args.limit c.self.inside.segments.items c.as_slice-2.result.now c.self.inside.ends.items c.as_slice.result.now c.as_slice-3.result.now
    c.self.invariant.0 c.self.invariant.1 c.as_slice.ensures.value c.as_slice-3.ensures.value c.as_slice-2.ensures.value
    c.place_of-at.ensures.before c.place_of-at.ensures.here c.place_of-at.ensures.bound (λ h. c.if-at-len.false (h ∙ sym c.len.ensures.value))

-- what is given is the chunk behind `done` bytes
given : (c : goal.After-chunk_in) → c.chunk_in.result ≡ chunk_from c.args.self.now c.args.done c.args.limit
given c =
    c.chunk_in.ensures ∙ sym (placed c).chunk
    ∙ ap (λ (xs : List Segment). chunk_from xs c.args.done c.args.limit) (c.as_slice-2.ensures.value ∙ c.self.view_is)

pub returns-clause-chunk : goal.returns-clause-chunk
returns-clause-chunk c = given c

pub returns-clause-end : goal.returns-clause-end
returns-clause-end c = subst (λ (o : Option Chunk). IsNone o ↔ (c.args.done ≡ bytes_of c.args.self.now)) (sym (given c)) (none_at_end c.args.self.now c.args.done c.args.limit c.requires.within)

pub returns-clause-some : goal.returns-clause-some
returns-clause-some c = subst (λ (o : Option Chunk). IfSome o (λ chunk. 0 < chunk.length)) (sym c.chunk_in.ensures) (omega (arith, (placed c).some, (placed c).left, c.requires.some))
