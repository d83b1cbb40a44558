-- Which buffer and which data the command of an ORB runs on (NCITS 325-1998, data buffers and page tables), read off what calls tell.
use Rattle.std.specs.Prelude.{◌≡◌, ℕ, ◌+◌, ◌-◌, ◌==◌, ◌&&◌, not, Bool, false, ◌^◌, if◌then◌else◌, List, [], ◌∷◌, ◌++◌, ◌⊎◌, length, Option, Some, None}
use Rattle.std.specs.Option.{option_map}
use Rattle.orb_layout.specs.declared.command.CommandOrb.{CommandOrb}
use Rattle.page_table.specs.declared.segment.Segment.{Segment}
use Rattle.page_table.specs.declared.segment.Chunk.{Chunk}
use Rattle.page_table.specs.Buffer.{single, chunk_from, bytes_of}
use Rattle.page_table.specs.Elements.{elements_of}
use Rattle.rbc_disk.specs.declared.command.BufferPlan.{BufferPlan}
use Rattle.rbc_disk.specs.Runs.{data_length_of}
use Rattle.command_agent.specs.Machine.{cut_to}
use Rattle.agent_laws.specs.Calls.{Call, notes, Note, Pointed, Turn, Table, Data, Ran, fetched_in}

-- the page table of the present or last ORB, as it was read
abbrev pub table_in : List Note → Option (List ℕ)
table_in [] = None
table_in (Table bytes ∷ ns) = Some bytes
table_in (Pointed at ∷ ns) = None
table_in (Turn at ∷ ns) = None
table_in (_ ∷ ns) = table_in ns

-- its data: the chunks that were read, joined
abbrev pub data_in : List Note → List ℕ
data_in [] = []
data_in (Data bytes ∷ ns) = data_in ns ++ bytes
data_in (Pointed at ∷ ns) = []
data_in (Turn at ∷ ns) = []
data_in (_ ∷ ns) = data_in ns

-- the buffer of an ORB without elements of a page table: the one segment that it names, or none
abbrev pub own_buffer : CommandOrb → List Segment
own_buffer orb = if orb.has_table then [] else single orb.descriptor orb.data_size

-- a page table is read where it has elements
abbrev pub reads_table : CommandOrb → Bool
reads_table orb = orb.has_table && not (orb.data_size == 0)

-- the buffer of an ORB: its own, or where its page table has elements these, as they were read
abbrev pub buffer_by : Option CommandOrb → Option (List ℕ) → Option (List Segment)
buffer_by None table = None
buffer_by (Some orb) table = if reads_table orb then option_map elements_of table else Some (own_buffer orb)

abbrev pub buffer_in : List Note → Option (List Segment)
buffer_in ns = buffer_by (fetched_in ns) (table_in ns)

-- the bytes of the data of its command
abbrev pub wanted_by : Option CommandOrb → ℕ
wanted_by None = 0
wanted_by (Some orb) = data_length_of false orb.cdb

abbrev pub wanted_in : List Note → ℕ
wanted_in ns = wanted_by (fetched_in ns)

-- the chunk of its buffer behind `done` bytes of the `total` that are to be moved: at most 2^(max_payload + 2) bytes, and none behind the last one
abbrev pub piece : CommandOrb → List Segment → ℕ → ℕ → Chunk
piece orb segments done total = cut_to (total - done) (chunk_from segments done (2 ^ (orb.max_payload + 2)))

abbrev pub piece_by : Option CommandOrb → Option (List Segment) → ℕ → ℕ → Option Chunk
piece_by (Some orb) (Some segments) done total = Some (piece orb segments done total)
piece_by _ _ done total = None

abbrev pub piece_in : List Note → ℕ → ℕ → Option Chunk
piece_in ns done total = piece_by (fetched_in ns) (buffer_in ns) done total

-- the buffer as a command is judged by it
abbrev pub plan_for : CommandOrb → List Segment → BufferPlan
plan_for orb segments = record { to_initiator = orb.to_initiator; bytes = bytes_of segments }

-- A command runs on the buffer of its ORB, and on the chunks that were read of it, joined: all of its data, or none.
pub record IsFed (ns : List Note) (orb : CommandOrb) (buffer : BufferPlan) (payload : List ℕ) : Type 0 where
  pub over : option_map (plan_for orb) (buffer_in ns) ≡ Some buffer
  pub joined : payload ≡ data_in ns
  pub whole : (payload ≡ []) ⊎ (length payload ≡ wanted_in ns)

abbrev pub Fed : List Note → Type 0
Fed [] = Unit {0}
Fed (Ran at orb buffer place plain payload outcome answer ∷ ns) = IsFed ns orb buffer payload × Fed ns
Fed (_ ∷ ns) = Fed ns

-- Over every list of calls.
abbrev pub CallsFeed : Type 0
CallsFeed = (calls : List Call) → Fed (notes calls)
