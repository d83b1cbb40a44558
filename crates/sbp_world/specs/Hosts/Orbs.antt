-- What the memory of an initiator holds of its ORBs, in every run (NCITS 325-1998, command block ORB and ORBs in the memory of the initiator). The slot
-- that an ORB was prepared in last spells it: its command, its direction, its buffer and its page table are those of its append; its next
-- pointer is null until the ORB behind it is linked, and then that ORB's address; its format is 3 exactly where it was made a dummy. A read of its
-- 32 bytes that is served gives these bytes. And an ORB that uses a slot is the one that was prepared last there.
use Rattle.std.specs.Prelude.{◌≡◌, ◌<◌, ℕ, suc, ◌*◌, nat_lt, true, if◌then◌else◌, List, ◌∷◌, ◌++◌, length, map, slice_index_or, take, Option, Some}
use Rattle.bus_memory.specs.Access.{read_step}
use Rattle.bus_memory.specs.Memory.{Memory}
use Rattle.bus_memory.specs.Memory as memories
use Rattle.bus_memory.specs.declared.window.Window.TheVariants as windows
use Rattle.bus_memory.specs.Windows.{start}
use Rattle.orb_layout.specs.declared.command.CommandOrb.{CommandOrb}
use Rattle.orb_layout.specs.declared.pointer.OrbPointer.{OrbPointer}
use Rattle.orb_layout.specs.declared.pointer.OrbPointer.TheVariants.{Null, At}
use Rattle.orb_layout.specs.CommandOrbs.{command_orb}
use Rattle.orb_list.specs.Layout.{has_table, orb_of, table_bytes}
use Rattle.page_table.specs.Buffer.{bytes_of}
use Rattle.rbc_disk.specs.Runs.{Told}
use Rattle.sbp_journal.specs.Buffers.{buffer_of}
use Rattle.sbp_journal.specs.Run.{Moment, asked, said}
use Rattle.sbp_journal.specs.declared.event.Cmd.{Cmd}
use Rattle.sbp_initiator.specs.Commands.{IsCommand, asked_by}
use Rattle.sbp_initiator.specs.declared.state.InitiatorState.{InitiatorState}
use Rattle.sbp_laws.specs.CarriedBytes.{Moved, address_of, buffer_in, laid_out, read_at}
use Rattle.sbp_laws.specs.CarriedLaw.{IsAsAppended}
use Rattle.sbp_laws.specs.Lists.{Orb, command_at, is_dummy, linked, prepared_in, slot_at, slots, used, vacant}
use Rattle.sbp_laws.specs.Terms.{Request, plan_of, request_at}
use Rattle.sbp_world.specs.Histories.{history_of}
use Rattle.sbp_world.specs.Runs.{Run, after, beginning}
use Rattle.sbp_world.specs.Settling.{MayAll, after_all}
use Rattle.sbp_world.specs.Worlds.{begun, initiator_at}
use Rattle.sbp_world.specs.Hosts.Refusing.{initiator_of}
use Rattle.sbp_world.specs.Hosts.Runs.{IsRun, more_deliveries}

-- what an append asks for
abbrev pub request_of : Cmd → Request
request_of cmd = record { cdb = cmd.cdb; buffer = buffer_of cmd }

-- the pointer to the ORB behind one, and the format of one
abbrev pub next_of : List Moment → (i n k : ℕ) → OrbPointer
next_of past i n k = if nat_lt (suc k) (linked past i n) then At (address_of past i n (suc k)) else Null

abbrev pub format_of : List Moment → (i n k : ℕ) → ℕ
format_of past i n k = if is_dummy past i n k then 3 else 0

-- the ORB of a command in a slot, with a node ID in its descriptor
abbrev pub orb_for : Cmd → (node slot : ℕ) → OrbPointer → (format : ℕ) → CommandOrb
orb_for cmd node slot next format = record (orb_of (asked_by cmd 0 0) slot) { next = next; descriptor_node = node; format = format }

-- An ORB stands in a slot.
pub record StandsIn (past : List Moment) (i : ℕ) (memory : Memory) (slot : ℕ) (one : Orb) : Type 0 where
  pub place : slot_at past i one.list one.number ≡ slot
  pub cmd : Cmd
  pub command : command_at past i one.list one.number ≡ Some cmd
  pub request : request_at past i one.list one.number ≡ Some (request_of cmd)
  pub fits : IsCommand cmd
  -- the buffer is as long as the command says, as its data and its segments fill it
  pub fills : (plan_of (buffer_of cmd)).bytes ≡ cmd.length
  pub node : ℕ
  pub orb : command_orb (memories.slot_at memory slot).orb ≡ orb_for cmd node slot (next_of past i one.list one.number) (format_of past i one.list one.number)
  pub as_appended : IsAsAppended (command_orb (memories.slot_at memory slot).orb) (request_of cmd)
  pub table : take (8 * length cmd.segments) (memories.slot_at memory slot).table ≡ table_bytes slot 0 cmd.segments
  -- a read of the page table that is served gives it; by it, where there is one, the buffer is the one that is laid out for the command, as long
  -- as the command says
  pub reads_table : (out : List ℕ) → length out ≡ 8 * length cmd.segments → (read_step memory (start (windows.Table slot)) out).0 ≡ 0 → (read_step memory (start (windows.Table slot)) out).1 ≡ table_bytes slot 0 cmd.segments
  pub laid : (moved : List Moved) → (has_table cmd.segments ≡ true → read_at (start (windows.Table slot)) moved ≡ table_bytes slot 0 cmd.segments) → buffer_in (command_orb (memories.slot_at memory slot).orb) moved ≡ laid_out slot cmd cmd.segments
  pub whole : bytes_of (laid_out slot cmd cmd.segments) ≡ cmd.length
  pub size : length (memories.slot_at memory slot).orb ≡ 32
  pub read : (out : List ℕ) → length out ≡ 32 → (read_step memory (address_of past i one.list one.number) out).0 ≡ 0 → (read_step memory (address_of past i one.list one.number) out).1 ≡ (memories.slot_at memory slot).orb

pub record HoldsOrbs (past : List Moment) (i : ℕ) (s : InitiatorState) : Type 0 where
  pub stands : (k : ℕ) (one : Orb) → k < 32 → prepared_in past i k ≡ Some one → StandsIn past i s.lists.memory k one
  pub in_use : (k : ℕ) (one : Orb) → k < 32 → slice_index_or (slots past i) k vacant ≡ used one → prepared_in past i k ≡ Some one

-- After each line of a run, and behind each delivery of a line that delivers one packet after the other.
pub record OrbsLaw : Type 0 where
  pub orbs : (line : ℕ) (run : Run) → IsRun run → (i : ℕ) → i < run.initiators → HoldsOrbs (history_of line run) i (initiator_of run i)
  pub between : (line : ℕ) (run : Run) → IsRun run → (next : ℕ) (most : Option ℕ) (told : List (Option Told)) → MayAll told (begun (after (beginning run) run.entries)) → (i : ℕ) → i < run.initiators → (let w = (after_all told (begun (after (beginning run) run.entries))).world in HoldsOrbs (map said w.fresh ++ asked next (more_deliveries most) ∷ history_of line run) i (initiator_at w i))
