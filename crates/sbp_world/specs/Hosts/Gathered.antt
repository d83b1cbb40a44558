-- What the writes to a buffer make of an answer, in every run (NCITS 325-1998, data buffers and status blocks). Where the data of an ORB go to its
-- initiator, and the writes that brought bytes of its buffer since the append are the pieces of the buffer, each of them once and in turn, the answer of the
-- good status that is taken is their bytes, joined. So where the target's writes to these pieces since the ORB's run are those writes, the answer
-- is that of the carried law.
use Rattle.std.specs.Prelude.{◌≡◌, ◌<◌, ℕ, ◌+◌, ◌==◌, ◌&&◌, nat_le, nat_lt, Bool, true, if◌then◌else◌, List, [], ◌∷◌, ◌++◌, length, map, Option, Some, None}
use Rattle.std.specs.List.{filter, flat_map, list_any}
use Rattle.byteorder.specs.Endian.{big_bytes}
use Rattle.async_packet.specs.Packet.{Packet, write_block, write_quadlet}
use Rattle.orb_layout.specs.declared.status.StatusKind.TheVariants as kinds
use Rattle.page_table.specs.Buffer.{buffer_addresses, chunk}
use Rattle.page_table.specs.declared.segment.Chunk.{Chunk}
use Rattle.rbc_disk.specs.Runs.{Told}
use Rattle.sbp_journal.specs.Run.{Moment, asked, said}
use Rattle.sbp_journal.specs.Wire.{terms}
use Rattle.sbp_journal.specs.declared.event.Cmd.{Cmd}
use Rattle.sbp_journal.specs.declared.note.Note.TheVariants as notes
use Rattle.sbp_laws.specs.CarriedBytes.{Moved, begins_one, laid_out, pieces_of, writes_since}
use Rattle.sbp_laws.specs.CarriedLaw.{AnswerIsCarried}
use Rattle.sbp_laws.specs.Lists.{command_at, slot_at}
use Rattle.sbp_laws.specs.Packets.{packet_at}
use Rattle.sbp_world.specs.Histories.{history_of}
use Rattle.sbp_world.specs.Runs.{Run, after, beginning}
use Rattle.sbp_world.specs.Settling.{MayAll, after_all}
use Rattle.sbp_world.specs.Worlds.{begun}
use Rattle.sbp_world.specs.Hosts.Bytes.{is_got_by}
use Rattle.sbp_world.specs.Hosts.Runs.{IsRun, more_deliveries}

-- the bytes that a write brings, and where they begin
abbrev pub write_in : Option Packet → Option Moved
write_in (Some (write_quadlet header offset value)) = Some (record { offset = offset; bytes = big_bytes 4 value })
write_in (Some (write_block header offset payload)) = Some (record { offset = offset; bytes = payload })
write_in _ = None

-- one has a byte at one of these addresses
abbrev pub touches : List ℕ → Moved → Bool
touches places one = list_any (λ address. nat_le one.offset address && nat_lt address (one.offset + length one.bytes)) places

abbrev pub touching : List ℕ → Option Moved → List Moved
touching places None = []
touching places (Some one) = if touches places one then one ∷ [] else []

-- the writes of bytes at these addresses that an initiator got since the last append to a slot, and answered complete, in order
abbrev pub written_at : List Moment → (i slot : ℕ) → List ℕ → List Moved
written_at [] i slot places = []
written_at (said (notes.Append j n k cdb buffer) ∷ past) i slot places =
    if (j == i) && (slot_at (said (notes.Append j n k cdb buffer) ∷ past) i n k == slot) then [] else written_at past i slot places
written_at (said (notes.Got serial) ∷ past) i slot places =
    written_at past i slot places ++ touching places (if is_got_by past i serial then write_in (packet_at (terms past) serial) else None)
written_at (_ ∷ past) i slot places = written_at past i slot places

-- those of the buffer of a command
abbrev pub written_of : List Moment → (i slot : ℕ) → Cmd → List Moved
written_of past i slot cmd = written_at past i slot (buffer_addresses (laid_out slot cmd cmd.segments))

-- where the bytes of a write stand
abbrev pub piece_of : Moved → Chunk
piece_of one = chunk one.offset (length one.bytes)

-- They are the pieces of the buffer, in turn.
abbrev pub AreInTurn : List Moment → (i slot : ℕ) → Cmd → Type 0
AreInTurn past i slot cmd = map piece_of (written_of past i slot cmd) ≡ pieces_of slot cmd

abbrev pub bytes_of : List Moved → List ℕ
bytes_of moved = flat_map (λ one. one.bytes) moved

-- The target's writes to the pieces of the buffer since the ORB's run are the writes that brought bytes of it, where its data go to the initiator.
abbrev pub AreOfTarget : List Moment → (i n k : ℕ) → Cmd → Type 0
AreOfTarget past i n k cmd =
    filter (begins_one (pieces_of (slot_at past i n k) cmd)) (writes_since past i n k) ≡ (if cmd.to_initiator then written_of past i (slot_at past i n k) cmd else [])

-- what is said of the answer of an ORB
pub record IsGathered (past : List Moment) (i n k : ℕ) (answer : List ℕ) : Type 0 where
  pub joins : (cmd : Cmd) → command_at past i n k ≡ Some cmd → cmd.to_initiator ≡ true → AreInTurn past i (slot_at past i n k) cmd → answer ≡ bytes_of (written_of past i (slot_at past i n k) cmd)
  pub carried : (cmd : Cmd) → command_at past i n k ≡ Some cmd → (cmd.to_initiator ≡ true → AreInTurn past i (slot_at past i n k) cmd) → AreOfTarget past i n k cmd → AnswerIsCarried past i n k answer

-- Of each good status that is taken, after each line of a run, and behind each delivery of a line that delivers one packet after the other.
pub record GatheredLaw : Type 0 where
  pub answers : (line : ℕ) (run : Run) → IsRun run → (i : ℕ) → i < run.initiators → (later past : List Moment) (n k : ℕ) (answer : List ℕ) → later ++ said (notes.Taken i n k kinds.Good answer) ∷ past ≡ history_of line run → IsGathered past i n k answer
  pub between : (line : ℕ) (run : Run) → IsRun run → (next : ℕ) (most : Option ℕ) (told : List (Option Told)) → MayAll told (begun (after (beginning run) run.entries)) → (i : ℕ) → i < run.initiators → (later past : List Moment) (n k : ℕ) (answer : List ℕ) → (let w = (after_all told (begun (after (beginning run) run.entries))).world in later ++ said (notes.Taken i n k kinds.Good answer) ∷ past ≡ map said w.fresh ++ asked next (more_deliveries most) ∷ history_of line run) → IsGathered past i n k answer
