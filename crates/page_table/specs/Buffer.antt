-- A buffer: segments joined in order, and the chunks in which its bytes are moved (NCITS 325-1998, page tables).
use Rattle.std.specs.Prelude.{◌≡◌, ℕ, zero, suc, length, ◌+◌, ◌-◌, ◌/◌, ◌<◌, ◌≤◌, ◌^◌, ◌==◌, min, nat_lt, if◌then◌else◌, List, [], ◌∷◌, take, drop, Option, Some, None, IfSome}
use Rattle.std.specs.List.{AllByRecursion, flat_map}
use Rattle.page_table.specs.declared.segment.Segment.{Segment}
use Rattle.page_table.specs.declared.segment.Chunk.{Chunk}

-- A segment has bytes, and ends at 2^48 at most.
pub record IsSegment (segment : Segment) : Type 0 where
  pub some : 0 < segment.length
  pub small : segment.length < 2 ^ 16
  pub inside : segment.base + segment.length ≤ 2 ^ 48

abbrev pub AreSegments : List Segment → Type 0
AreSegments segments = AllByRecursion IsSegment segments

-- the buffer of an ORB without a page table: one segment, or none where it has no bytes
abbrev pub single : ℕ → ℕ → List Segment
single base len = if len == 0 then [] else record { base = base; length = len } ∷ []

-- the length of the buffer in bytes
abbrev pub bytes_of : List Segment → ℕ
bytes_of [] = 0
bytes_of (segment ∷ rest) = segment.length + bytes_of rest

abbrev pub chunk : ℕ → ℕ → Chunk
chunk offset length = record { offset = offset; length = length }

-- the chunk that begins so many bytes into the buffer, ends with its segment and has at most `limit` bytes
abbrev pub chunk_from : List Segment → ℕ → ℕ → Option Chunk
chunk_from [] done limit = None
chunk_from (segment ∷ rest) done limit =
    if nat_lt done segment.length
    then Some (chunk (segment.base + done) (min limit (segment.length - done)))
    else chunk_from rest (done - segment.length) limit

-- a number of pieces of `limit` bytes, the last of what is left
abbrev pub pieces : ℕ → ℕ → ℕ → ℕ → List Chunk
pieces zero base left limit = []
pieces (suc count) base left limit = chunk base (min limit left) ∷ pieces count (base + limit) (left - limit) limit

-- the chunks of one segment: pieces of `limit` bytes, and a last piece of 1 to `limit` bytes
abbrev pub segment_chunks : ℕ → Segment → List Chunk
segment_chunks limit segment = pieces ((segment.length + limit - 1) / limit) segment.base segment.length limit

-- the chunks of the buffer
abbrev pub chunks : ℕ → List Segment → List Chunk
chunks limit segments = flat_map (segment_chunks limit) segments

-- the addresses of so many bytes
abbrev pub addresses : ℕ → ℕ → List ℕ
addresses base zero = []
addresses base (suc count) = base ∷ addresses (base + 1) count

-- the addresses of the buffer's bytes in their order: those of the segments, joined
abbrev pub buffer_addresses : List Segment → List ℕ
buffer_addresses segments = flat_map (λ segment. addresses segment.base segment.length) segments

-- the addresses of the bytes of chunks, joined
abbrev pub chunk_addresses : List Chunk → List ℕ
chunk_addresses taken = flat_map (λ piece. addresses piece.offset piece.length) taken

-- The chunks joined are the buffer.
abbrev pub ChunksJoin : Type 0
ChunksJoin = (limit : ℕ) (segments : List Segment) → 0 < limit → chunk_addresses (chunks limit segments) ≡ buffer_addresses segments

-- a chunk, if there is one, before those that follow it
abbrev pub before : Option Chunk → (Chunk → List Chunk) → List Chunk
before None rest = []
before (Some taken) rest = taken ∷ rest taken

-- the chunks that so many calls give from `done` bytes on, each call where the chunk before ended
abbrev pub taken_from : ℕ → List Segment → ℕ → ℕ → List Chunk
taken_from zero segments done limit = []
taken_from (suc calls) segments done limit =
    before (chunk_from segments done limit) (λ taken. taken_from calls segments (done + taken.length) limit)

-- Calls in turn give the chunks of the buffer, as many as there are.
abbrev pub ChunksInTurn : Type 0
ChunksInTurn = (limit calls : ℕ) (segments : List Segment) → AreSegments segments → 0 < limit → length (chunks limit segments) ≤ calls → taken_from calls segments 0 limit ≡ chunks limit segments

-- A chunk that begins anywhere has the addresses of that many bytes of the buffer from there on.
abbrev pub ChunkInPlace : Type 0
ChunkInPlace = (segments : List Segment) (done limit : ℕ) → IfSome (chunk_from segments done limit) (λ piece. addresses piece.offset piece.length ≡ take piece.length (drop done (buffer_addresses segments)))
