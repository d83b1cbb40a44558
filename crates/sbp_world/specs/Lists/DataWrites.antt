-- The data that the target writes for its initiators, while an agent writes the answer of its present ORB (NCITS 325-1998, command block ORB, data buffers and page tables):
-- the write that the agent waits for is of the next chunk of the ORB's buffer, behind those bytes of the answer that were written, in the slot that the ORB has.
use Rattle.std.specs.Prelude.{◌≡◌, ◌<◌, ◌≤◌, ◌+◌, ◌-◌, ◌^◌, ℕ, suc, true, List, [], ◌∷◌, ◌++◌, drop, length, map, take, Option, Some}
use Rattle.command_agent.specs.declared.phase.Phase.TheVariants as phases
use Rattle.command_agent.specs.Machine.{Machine, cut_to}
use Rattle.bus_memory.specs.declared.window.Window.TheVariants as windows
use Rattle.bus_memory.specs.Windows.{window_at}
use Rattle.orb_layout.specs.Replies.{Done}
use Rattle.page_table.specs.Buffer.{chunk, chunk_from, bytes_of}
use Rattle.rbc_disk.specs.Disk.{Disk}
use Rattle.rbc_disk.specs.Runs.{Told}
use Rattle.sbp_journal.specs.Addresses.{Access}
use Rattle.sbp_journal.specs.Run.{Moment, asked, said}
use Rattle.sbp_journal.specs.Wire.{terms}
use Rattle.sbp_journal.specs.declared.event.Cmd.{Cmd}
use Rattle.sbp_journal.specs.declared.event.Event.{Event}
use Rattle.sbp_journal.specs.declared.note.Note.TheVariants as notes
use Rattle.sbp_laws.specs.CarriedBytes.{laid_out}
use Rattle.sbp_laws.specs.Lists.{command_at, linked, orb, prepared_in, slot_at}
use Rattle.sbp_laws.specs.Packets.{access_at, access_in_bytes, answer_in, answered_at, is_under_way, packet_at, receiver_in, sender_in}
use Rattle.sbp_laws.specs.Targets.{agent_at, over, target_at}
use Rattle.sbp_laws.specs.Terms.{ends, runs, ended_status}
use Rattle.sbp_laws.specs.Turns.{EachMoment}
use Rattle.sbp_world.specs.Histories.{history_of}
use Rattle.sbp_world.specs.Runs.{Run, after, beginning}
use Rattle.sbp_world.specs.Settling.{MayAll, after_all}
use Rattle.sbp_world.specs.Telling.{holder}
use Rattle.sbp_world.specs.Worlds.{WorldState, begun}
use Rattle.sbp_world.specs.Agents.Management.Terms.{DeliversMore}
use Rattle.sbp_world.specs.Hosts.Runs.{IsRun}
use Rattle.sbp_world.specs.Lists.AnswersTold.{IsAnswerOf}
use Rattle.sbp_world.specs.Lists.Closes.{UnderFrom, WhereTameOrFew}
use Rattle.sbp_world.specs.Lists.Needs.{IsCalm, OpenAfter, OpenBefore, OpenBehind, OpenBetween, initiator_in, machine_at}
use Rattle.sbp_world.specs.Lists.SlotsStay.{HasSlot}
use Rattle.orb_layout.specs.declared.status.StatusKind.{StatusKind}
use Rattle.orb_layout.specs.declared.status.StatusKind.TheVariants as kinds

-- ---- a packet as it is sent

-- a packet writes into the buffer of a slot
pub record IsDataWrite (bytes : List ℕ) (slot : ℕ) : Type 0 where
  pub access : Access
  pub is : access_in_bytes bytes ≡ Some access
  pub writes : access.is_write ≡ true
  pub goes : window_at access.offset ≡ Some (windows.Buffer slot)

-- So many bytes at an address are the next chunk of the buffer of an ORB, which its slot has, behind those of its answer that its agent wrote; and the agent has its bytes.
pub record IsPieceOf (past : List Moment) (i n number : ℕ) (m : Machine) (offset size : ℕ) : Type 0 where
  pub below : number < linked past i n
  pub has : prepared_in past i (slot_at past i n number) ≡ Some (orb n number)
  pub cmd : Cmd
  pub command : command_at past i n number ≡ Some cmd
  pub small : slot_at past i n number < 32
  pub within : m.written ≤ length m.answer
  pub piece : chunk offset size ≡ cut_to (length m.answer - m.written) (chunk_from (laid_out (slot_at past i n number) cmd cmd.segments) m.written (2 ^ (cmd.max_payload + 2)))
  pub bytes : m.outgoing ≡ take size (drop m.written m.answer)

-- A packet answers with rcode 0 the write of the chunk before it, for which the agent waits: where that ended, the next one begins; and the answer has as many bytes as the buffer.
pub record IsAnswered (past : List Moment) (i n number : ℕ) (m : Machine) (got : ℕ) : Type 0 where
  pub serial : ℕ
  pub closed : answered_at (terms past) got ≡ Some serial
  pub done : answer_in (packet_at (terms past) got) ≡ Done
  pub from : sender_in ((terms past).sent serial) ≡ Some 0
  pub to : receiver_in ((terms past).sent serial) ≡ Some (suc i)
  pub under_way : is_under_way (terms past) serial ≡ true
  pub access : Access
  pub is : access_at (terms past) serial ≡ Some access
  pub writes : access.is_write ≡ true
  pub some : 0 < length access.payload
  pub cmd : Cmd
  pub command : command_at past i n number ≡ Some cmd
  pub done_before : ℕ
  pub piece : chunk access.offset (length access.payload) ≡ cut_to (length m.answer - done_before) (chunk_from (laid_out (slot_at past i n number) cmd cmd.segments) done_before (2 ^ (cmd.max_payload + 2)))
  pub behind : m.written ≡ done_before + length access.payload
  pub whole : length m.answer ≡ bytes_of (laid_out (slot_at past i n number) cmd cmd.segments)
  pub stands : window_at access.offset ≡ Some (windows.Buffer (slot_at past i n number))

-- Writes of an answer come in turn: the first one in the turn in which its command runs, and each later one as the write of the chunk before it is answered.
pub data IsInTurn (past before : List Moment) (i n number : ℕ) (m : Machine) : Type 0 where
  is_first : runs before i n number ≡ 0 → m.written ≡ 0 → IsInTurn past before i n number m
  follows : (got : ℕ) (later : List Moment) → later ++ said (notes.Got got) ∷ before ≡ past → IsAnswered before i n number m got → IsInTurn past before i n number m

-- The target sends no write of data to an initiator in these moments.
abbrev pub IsDry : ℕ → Moment → Type 0
IsDry i (said (notes.Sent serial generation from to bytes)) = from ≡ 0 → to ≡ suc i → (slot : ℕ) → IsDataWrite bytes slot → ⊥
IsDry i moment = Unit {0}

abbrev pub AreDry : ℕ → List Moment → Type 0
AreDry i [] = Unit {0}
AreDry i (moment ∷ before) = IsDry i moment × AreDry i before

-- As the turn began in which it was sent, it was that of the first ORB of a list that had not ended.
pub record WasPiece (start : List Disk) (past : List Moment) (i generation slot : ℕ) (access : Access) : Type 0 where
  pub later : List Moment
  pub before : List Moment
  pub is : later ++ before ≡ past
  pub list : ℕ
  pub machine : Machine
  pub size : ℕ
  pub piece : IsPieceOf before i list (ends before i list) machine access.offset size
  pub bytes : access.payload ≡ machine.outgoing
  pub turn : IsInTurn past before i list (ends before i list) machine
  -- none was sent before it in its turn
  pub alone : AreDry i later
  -- it goes to the slot of this ORB, which ran, has not ended but as failed, and which the slot has where the write is in the initiator's generation; it is in the target's
  pub slot_is : slot_at before i list (ends before i list) ≡ slot
  pub ran : 0 < runs past i list (ends before i list)
  pub still : (status : StatusKind) → ended_status past i list (ends before i list) ≡ Some status → status ≡ kinds.Failed
  pub seen : generation ≤ (terms before).generation (suc i)
  pub own : generation ≡ (terms before).generation 0
  pub held : generation ≡ (terms before).generation (suc i) → HasSlot before i slot (orb list (ends before i list))
  -- and its bytes are of the answer to the command of this ORB as it ran
  pub told : IsAnswerOf start past i list (ends before i list) machine.answer

abbrev pub DataSo : List Disk → ℕ → Moment → List Moment → Type 0
DataSo start i (said (notes.Sent serial generation from to bytes)) past = from ≡ 0 → to ≡ suc i → (slot : ℕ) (x : IsDataWrite bytes slot) → WasPiece start past i generation slot x.access
DataSo start i moment past = Unit {0}

-- at each place of a run, of the initiators that injected no packets
abbrev pub AllDataSo : List Disk → List Moment → WorldState → Type 0
AllDataSo start past w = (i : ℕ) → i < length w.initiators → IsCalm past i → EachMoment (DataSo start i) past

-- so it is of every run in which no initiator injected packets, or few logins were given, where lists were open as they should be before
abbrev pub DataSentLaw : Type 0
DataSentLaw = UnderFrom (λ start. WhereTameOrFew (AllDataSo start))

-- ---- what an agent waits for

-- The request with a serial is a write of the target to the initiator that has the place, under way: it writes the next chunk of the buffer of its list's present ORB.
pub record IsNextChunk (past : List Moment) (w : WorldState) (place serial : ℕ) : Type 0 where
  pub inside : initiator_in w place < length w.initiators
  pub list : ℕ
  pub list_is : (holder w place).list ≡ Some list
  pub number : ℕ
  pub number_is : number ≡ ends past (initiator_in w place) list
  pub below : number < linked past (initiator_in w place) list
  pub cmd : Cmd
  pub command : command_at past (initiator_in w place) list number ≡ Some cmd
  pub small : slot_at past (initiator_in w place) list number < 32
  pub has : prepared_in past (initiator_in w place) (slot_at past (initiator_in w place) list number) ≡ Some (orb list number)
  pub from : sender_in ((terms past).sent serial) ≡ Some 0
  pub to : receiver_in ((terms past).sent serial) ≡ Some (suc (initiator_in w place))
  pub under_way : is_under_way (terms past) serial ≡ true
  pub access : Access
  pub is : access_at (terms past) serial ≡ Some access
  pub writes : access.is_write ≡ true
  pub within : (machine_at w place).written ≤ length (machine_at w place).answer
  pub piece : chunk access.offset (length access.payload) ≡ cut_to (length (machine_at w place).answer - (machine_at w place).written) (chunk_from (laid_out (slot_at past (initiator_in w place) list number) cmd cmd.segments) (machine_at w place).written (2 ^ (cmd.max_payload + 2)))
  pub stands : 0 < length access.payload → window_at access.offset ≡ Some (windows.Buffer (slot_at past (initiator_in w place) list number))

-- each agent that writes an answer, of an initiator that injected no packets
abbrev pub AreNextChunks : List Disk → List Moment → WorldState → Type 0
AreNextChunks start past w = (place serial : ℕ) → place < 8 → IsCalm past (initiator_in w place) → (machine_at w place).phase ≡ phases.Answering → (agent_at (over (target_at start past)) place).main ≡ Some serial → IsNextChunk past w place serial

-- After every line of every run, and behind each delivery of a line that may follow, where lists were open as they should be before in this run, and are so now.
pub record DataWritesLaw : Type 0 where
  pub after_lines : (line : ℕ) (run : Run) → IsRun run → 0 < run.units → run.units ≤ 4 → length run.start.disks ≡ run.units → OpenBefore line run run.entries → OpenAfter line run run.entries → AreNextChunks run.start.disks (history_of line run) (after (beginning run) run.entries).world
  pub between : (line : ℕ) (run : Run) → IsRun run → 0 < run.units → run.units ≤ 4 → length run.start.disks ≡ run.units → (next : ℕ) (event : Event) → DeliversMore event → (told : List (Option Told)) → MayAll told (begun (after (beginning run) run.entries)) → OpenBetween line run next event told → OpenBehind (asked next event ∷ history_of line run) told (begun (after (beginning run) run.entries)) → (let w = (after_all told (begun (after (beginning run) run.entries))).world in AreNextChunks run.start.disks (map said w.fresh ++ asked next event ∷ history_of line run) w)
