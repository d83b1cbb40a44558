-- The bytes that packets carried: what the target read of an ORB and of its buffer, and what it wrote there (NCITS 325-1998, command block
-- ORB and page tables).
use Rattle.std.specs.Prelude.{◌≡◌, ℕ, suc, ◌+◌, ◌^◌, ◌<◌, ◌==◌, ◌&&◌, Bool, true, false, if◌then◌else◌, List, [], ◌∷◌, ◌++◌, length, Option, Some, None, IsSomeAnd}
use Rattle.std.specs.List.{filter, list_any, flat_map}
use Rattle.orb_layout.specs.declared.command.CommandOrb.{CommandOrb}
use Rattle.orb_layout.specs.CommandOrbs.{command_orb}
use Rattle.orb_layout.specs.Replies.{Answer, Payload}
use Rattle.page_table.specs.declared.segment.Segment.{Segment}
use Rattle.page_table.specs.declared.segment.Chunk.{Chunk}
use Rattle.page_table.specs.Buffer.{single, chunks}
use Rattle.page_table.specs.Elements.{elements_of}
use Rattle.rbc_disk.specs.Disk.{Disk}
use Rattle.bus_memory.specs.declared.window.Window.TheVariants as windows
use Rattle.bus_memory.specs.Windows.{start}
use Rattle.orb_list.specs.Layout.{behind}
use Rattle.sbp_journal.specs.Run.{Moment, said}
use Rattle.sbp_journal.specs.Addresses.{Access}
use Rattle.sbp_journal.specs.Wire.{Terms, terms}
use Rattle.sbp_journal.specs.declared.event.Cmd.{Cmd}
use Rattle.sbp_journal.specs.declared.note.Note.TheVariants as notes
use Rattle.sbp_laws.specs.Terms.{appends}
use Rattle.sbp_laws.specs.Packets.{access_at, packet_at, answered_at, answer_in, sender_in, receiver_in}
use Rattle.sbp_laws.specs.Lists.{slot_at}
use Rattle.sbp_laws.specs.Targets.{Target, Agent, target_at, is_serial, initiator_at}
use Rattle.sbp_laws.specs.Agents.{list_taken}
use Rattle.sbp_laws.specs.Management.{is_open}

-- what stood before a packet was sent, and whether one was got
abbrev pub before_sent : List Moment → ℕ → List Moment
before_sent [] serial = []
before_sent (said (notes.Sent other generation from to bytes) ∷ past) serial = if other == serial then past else before_sent past serial
before_sent (_ ∷ past) serial = before_sent past serial

abbrev pub was_got : List Moment → ℕ → Bool
was_got [] serial = false
was_got (said (notes.Got other) ∷ past) serial = if other == serial then true else was_got past serial
was_got (_ ∷ past) serial = was_got past serial

-- the open list of an initiator: that of the agent of a login of it, where it is not in RESET, named as its pointer was taken
abbrev pub open_among : List Disk → List Moment → Terms → Target → (i : ℕ) → (place : ℕ) → List Agent → Option ℕ
open_among start past wire target i place [] = None
open_among start past wire target i place (a ∷ agents) =
    if is_open a && (initiator_at target wire place == i) then list_taken start past place else open_among start past wire target i (place + 1) agents

abbrev pub open_list : List Disk → List Moment → (i : ℕ) → Option ℕ
open_list start past i = open_among start past (terms past) (target_at start past) i 0 (target_at start past).agents

-- ---- the ORB as it was read
abbrev pub bytes_in : Answer → List ℕ
bytes_in (Payload bytes) = bytes
bytes_in answer = []

abbrev pub payload_at : Terms → ℕ → List ℕ
payload_at wire serial = bytes_in (answer_in (packet_at wire serial))

-- a read of a block of so many bytes at an address
pub record IsRead (access : Access) (address count : ℕ) : Type 0 where
  pub read : access.is_write ≡ false
  pub block : access.is_block ≡ true
  pub from : access.offset ≡ address
  pub size : access.count ≡ count

-- where an ORB stands
abbrev pub address_of : List Moment → (i n k : ℕ) → ℕ
address_of past i n k = start (windows.Orb (slot_at past i n k))

-- The ORB was read: the response of 32 bytes that the target got, and the request that this answers.
pub record WasRead (disks : List Disk) (past : List Moment) (i n k : ℕ) : Type 0 where
  pub response : ℕ
  pub request : ℕ
  pub got : was_got past response ≡ true
  pub whole : length (payload_at (terms past) response) ≡ 32
  pub answers : (terms past).answers response ≡ Some request
  pub of_target : sender_in ((terms past).sent request) ≡ Some 0
  pub of_initiator : receiver_in ((terms past).sent request) ≡ Some (suc i)
  pub asks : IsSomeAnd (access_at (terms past) request) (λ access. IsRead access (address_of past i n k) 32)
  pub appended : k < appends (before_sent past request) i n
  pub opened : open_list disks (before_sent past request) i ≡ Some n

abbrev pub orb_read : List Moment → ℕ → CommandOrb
orb_read past response = command_orb (payload_at (terms past) response)

-- ---- what was got since: of the target's reads, and of the target's writes
-- bytes that were moved, and where they begin
pub record Moved : Type 0 where
  pub offset : ℕ
  pub bytes : List ℕ

abbrev pub moved_by : Option Access → List ℕ → List Moved
moved_by None bytes = []
moved_by (Some access) bytes = record { offset = access.offset; bytes = bytes } ∷ []

-- a response of initiator i that the target got
abbrev pub read_by : Terms → (i serial : ℕ) → Option ℕ → List Moved
read_by wire i serial None = []
read_by wire i serial (Some own) =
    if is_serial (sender_in (wire.sent serial)) (suc i) && is_serial (receiver_in (wire.sent serial)) 0 then moved_by (access_at wire own) (payload_at wire serial) else []

-- the reads that were answered since a packet was got, in order
abbrev pub reads_since : List Moment → (i since : ℕ) → List Moved
reads_since [] i since = []
reads_since (said (notes.Got serial) ∷ past) i since =
    if serial == since then [] else reads_since past i since ++ read_by (terms past) i serial (answered_at (terms past) serial)
reads_since (_ ∷ past) i since = reads_since past i since

-- a write of the target that initiator i got
abbrev pub written_in : Option Access → List Moved
written_in None = []
written_in (Some access) = if access.is_write then record { offset = access.offset; bytes = access.payload } ∷ [] else []

abbrev pub written_by : Terms → (i serial : ℕ) → List Moved
written_by wire i serial =
    if is_serial (sender_in (wire.sent serial)) 0 && is_serial (receiver_in (wire.sent serial)) (suc i) then written_in (access_at wire serial) else []

-- the writes that were got since an ORB ran, in order
abbrev pub is_run_of : (i n k j : ℕ) → Option ℕ → Option ℕ → Bool
is_run_of i n k j list number = (i == j) && is_serial list n && is_serial number k

abbrev pub writes_since : List Moment → (i n k : ℕ) → List Moved
writes_since [] i n k = []
writes_since (said (notes.Ran j list number unit cdb bytes check) ∷ past) i n k = if is_run_of i n k j list number then [] else writes_since past i n k
writes_since (said (notes.Got serial) ∷ past) i n k = writes_since past i n k ++ written_by (terms past) i serial
writes_since (_ ∷ past) i n k = writes_since past i n k

-- those that begin where a chunk of a buffer begins, joined
abbrev pub begins_one : List Chunk → Moved → Bool
begins_one pieces moved = list_any (λ piece. piece.offset == moved.offset) pieces

abbrev pub joined : List Chunk → List Moved → List ℕ
joined pieces moved = flat_map (λ one. one.bytes) (filter (begins_one pieces) moved)

-- ---- buffers
-- the bytes that were read from an address, the first time
abbrev pub read_at : ℕ → List Moved → List ℕ
read_at address [] = []
read_at address (one ∷ moved) = if one.offset == address then one.bytes else read_at address moved

-- the buffer of an ORB that was read: by its page table, where it has one
abbrev pub buffer_in : CommandOrb → List Moved → List Segment
buffer_in orb moved = if orb.has_table then elements_of (read_at orb.descriptor moved) else single orb.descriptor orb.data_size

-- the buffer that an initiator lays out for a command, segment by segment
abbrev pub placed : (at : ℕ) → List ℕ → List Segment
placed at [] = []
placed at (count ∷ counts) = record { base = at; length = count } ∷ placed (behind at count) counts

abbrev pub laid_out : (slot : ℕ) → Cmd → List ℕ → List Segment
laid_out slot cmd [] = single (start (windows.Buffer slot)) cmd.length
laid_out slot cmd (count ∷ counts) = placed (start (windows.Buffer slot)) (count ∷ counts)

abbrev pub pieces_of : (slot : ℕ) → Cmd → List Chunk
pieces_of slot cmd = chunks (2 ^ (cmd.max_payload + 2)) (laid_out slot cmd cmd.segments)
