-- What the page tables and the buffers in an initiator's memory hold, in every run (NCITS 325-1998, page tables and data buffers in the memory of
-- the initiator). The page table of a slot is that of the ORB that was prepared there last, and behind its end stands what stood there before,
-- zeros at first. A byte of a slot's buffer is of the data of the latest command prepared there that has one at this address, or of a write that
-- this initiator got since and answered complete: of a block, or of a quadlet. While the data of an ORB go to the target, no write changes them:
-- they stand in its segments.
use Rattle.std.specs.Prelude.{◌≡◌, ◌<◌, ℕ, suc, ◌+◌, ◌-◌, ◌==◌, ◌&&◌, ◌||◌, nat_le, Bool, true, false, if◌then◌else◌, List, [], ◌∷◌, ◌++◌, map, slice_index_or, Option, Some, None}
use Rattle.byteorder.specs.Endian.{big_bytes}
use Rattle.async_packet.specs.Packet.{Packet, write_block, write_quadlet}
use Rattle.bus_memory.specs.Memory.{Memory}
use Rattle.bus_memory.specs.Memory as memories
use Rattle.bus_memory.specs.declared.window.Window.TheVariants as windows
use Rattle.bus_memory.specs.Windows.{start}
use Rattle.rbc_disk.specs.Runs.{Told}
use Rattle.sbp_journal.specs.Run.{Moment, asked, said}
use Rattle.sbp_journal.specs.Wire.{terms}
use Rattle.sbp_journal.specs.declared.event.Cmd.{Cmd}
use Rattle.sbp_journal.specs.declared.note.Note.TheVariants as notes
use Rattle.sbp_laws.specs.Lists.{Orb, command_at, prepared_in, slot_at}
use Rattle.sbp_laws.specs.Packets.{access_at, packet_at, receiver_in}
use Rattle.sbp_laws.specs.Served.{byte_in, byte_of, data_at, goes_in, is_complete_at, or_byte, tables_in_slot}
use Rattle.sbp_laws.specs.Targets.{is_serial}
use Rattle.sbp_world.specs.Histories.{history_of}
use Rattle.sbp_world.specs.Runs.{Run, after, beginning}
use Rattle.sbp_world.specs.Settling.{MayAll, after_all}
use Rattle.sbp_world.specs.Worlds.{begun, initiator_at}
use Rattle.sbp_world.specs.Hosts.Refusing.{initiator_of}
use Rattle.sbp_world.specs.Hosts.Runs.{IsRun, more_deliveries}

-- the byte that bytes from an address on bring to another one, where they reach it
abbrev pub byte_from : (address offset : ℕ) → List ℕ → Option ℕ
byte_from address offset bytes = if nat_le offset address then data_at (Some (address - offset)) bytes else None

-- that of a packet, where it is a write
abbrev pub byte_brought : (address : ℕ) → Option Packet → Option ℕ
byte_brought address (Some (write_quadlet header offset value)) = byte_from address offset (big_bytes 4 value)
byte_brought address (Some (write_block header offset payload)) = byte_from address offset payload
byte_brought address _ = None

-- an initiator gets a request that it answers complete
abbrev pub is_got_by : List Moment → (i serial : ℕ) → Bool
is_got_by past i serial = is_serial (receiver_in ((terms past).sent serial)) (suc i) && is_complete_at past i (access_at (terms past) serial)

-- a byte of a slot's buffer
abbrev pub byte_held : List Moment → (i slot address : ℕ) → ℕ
byte_held [] i slot address = 0
byte_held (said (notes.Append j n k cdb buffer) ∷ past) i slot address =
    or_byte (if (j == i) && (slot_at (said (notes.Append j n k cdb buffer) ∷ past) i n k == slot) then byte_of slot address (command_at (said (notes.Append j n k cdb buffer) ∷ past) i n k) else None) (byte_held past i slot address)
byte_held (said (notes.Got serial) ∷ past) i slot address =
    or_byte (if is_got_by past i serial then byte_brought address (packet_at (terms past) serial) else None) (byte_held past i slot address)
byte_held (_ ∷ past) i slot address = byte_held past i slot address

-- An initiator got a write of a quadlet that it answered complete.
abbrev pub writes_quadlet : Option Packet → Bool
writes_quadlet (Some (write_quadlet header offset value)) = true
writes_quadlet _ = false

abbrev pub took_quadlet : List Moment → ℕ → Bool
took_quadlet [] i = false
took_quadlet (said (notes.Got serial) ∷ past) i = (is_got_by past i serial && writes_quadlet (packet_at (terms past) serial)) || took_quadlet past i
took_quadlet (_ ∷ past) i = took_quadlet past i

-- A memory holds the bytes that the history says. No quadlet is written there: those of the buffers are those of the laws of answers.
pub record HoldsBytes (past : List Moment) (i : ℕ) (memory : Memory) : Type 0 where
  pub tables : (slot : ℕ) → slot < 32 → (memories.slot_at memory slot).table ≡ tables_in_slot past i slot
  pub buffers : (slot at : ℕ) → slot < 32 → at < 0x8000 → slice_index_or (memories.slot_at memory slot).buffer at 0 ≡ byte_held past i slot (start (windows.Buffer slot) + at)
  pub as_answered : (slot at : ℕ) → slot < 32 → at < 0x8000 → slice_index_or (memories.slot_at memory slot).buffer at 0 ≡ byte_in past i slot (start (windows.Buffer slot) + at)
  -- the data of an ORB that takes none from the target
  pub sends : (slot : ℕ) (one : Orb) (cmd : Cmd) → slot < 32 → prepared_in past i slot ≡ Some one → command_at past i one.list one.number ≡ Some cmd → goes_in (Some cmd) ≡ false → (at byte : ℕ) → at < 0x8000 → byte_of slot (start (windows.Buffer slot) + at) (Some cmd) ≡ Some byte → slice_index_or (memories.slot_at memory slot).buffer at 0 ≡ byte

-- After each line of a run, and behind each delivery of a line that delivers one packet after the other.
pub record BytesLaw : Type 0 where
  pub bytes : (line : ℕ) (run : Run) → IsRun run → (i : ℕ) → i < run.initiators → HoldsBytes (history_of line run) i (initiator_of run i).lists.memory
  pub between : (line : ℕ) (run : Run) → IsRun run → (next : ℕ) (most : Option ℕ) (told : List (Option Told)) → MayAll told (begun (after (beginning run) run.entries)) → (i : ℕ) → i < run.initiators → (let w = (after_all told (begun (after (beginning run) run.entries))).world in HoldsBytes (map said w.fresh ++ asked next (more_deliveries most) ∷ history_of line run) i (initiator_at w i).lists.memory)
